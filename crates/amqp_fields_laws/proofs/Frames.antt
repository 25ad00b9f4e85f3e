-- A head and its nodes that were read are made to a frame, whose bytes are found by the header scan.
use Rattle.amqp_fields_laws.proofs
use Rattle.amqp_types.specs as types
use Rattle.amqp_fields_write.specs as writing
use Rattle.amqp_fields.specs as reading
use Rattle.std.proofs.Common.{◌≡◌, ◌≢◌, ℕ, ◌+◌, ◌≤◌, ◌<◌, ◌^◌, true, List, [], ◌∷◌, ◌++◌, length, take, drop, Some, Ok, Err, refl, sym, ap, subst, ◌∙◌}
use Rattle.std.proofs.Common.{append_assoc, arith, ◌==◌, ◌&&◌, nat_lt, nat_le, Bool, false, not, cond, None, if◌then◌else◌}
use Rattle.std.proofs.lemmas.List.{take_at}
use types.Judging.{took, IsBytes}
use types.Levels.{plain}
use types.Constants.{body_byte, protocol_byte, protocol_mark}
use Rattle.amqp_wire.specs.declared.frame_type.AMQPFrameType.{AMQPFrameType}
use Rattle.amqp_wire.specs.declared.frame_type.AMQPFrameType.TheVariants as kinds
use Rattle.amqp_wire.specs.Frames.{Frame, Proto, Meth, Head, Body, Beat, BadBeat, Raw, length_around, raw_as, beat_on}
use Rattle.amqp_wire.specs.Looks.{payload_place}
use Rattle.amqp_wire.specs.HeaderScan.{scan}
use Rattle.amqp_wire.specs.Spelling.{IsWithin, Spells, byte_of, bytes_as, framed}
use Rattle.amqp_wire.specs.Verdicts.{judge_scanned, judge_frame, decode_raw, all_of, decode_payload}
use Rattle.amqp_wire.proofs.Encoded.{judge_decoded-is, read_as}
use Rattle.amqp_wire.proofs.Sizes.{framed_length}
use Rattle.amqp_wire.proofs.Spelled.{scan-beat, scan-body, scan-header, scan-method}
use reading.declared.head.Head as given
use reading.declared.node.Node.{Node}
use writing.declared.refusals.Refusal.{Refusal}
use writing.Made.{Made, after, misfit_head, refuse_head}
use writing.Meant.{TellsTyped}
use proofs.HeadsTold.{scan_version}
use Rattle.amqp_fields_write.proofs.MeantValuesMade.{Fits}
use Rattle.std.proofs.lemmas.Bool.Decides.{nat_tests}
use types.Numbers.{bytes2, number_bytes}
use types.Methods.{Method, judge_payload}
use types.ContentHeaders.{ContentHeader, judge_content_header}
use Rattle.amqp_wire.specs.Outlines.{outline_of}
use writing.declared.refusals.WriteRefusal.TheVariants as whys
use reading.Heads.{head_of}
use reading.Listed.{listed_payload, nodes_of, payload_nodes, version_slots}
use writing.MadeFields.{made_properties, made_slots}
use writing.MadeFrames.{are_beyond, given_length, has_no_ids, header_front, made_around, made_beat, made_body, made_bytes, made_payload, made_typed, nodes_in}
use reading.Meaning.{IsSpan}
use Rattle.amqp_fields.proofs.Answering.{filled_took, span_stands}
use Rattle.amqp_fields_write.proofs.FramesMade.{header_parts, method_parts, version_parts}
use Rattle.amqp_fields_write.proofs.MeantFramesMade.{given_within}
use Rattle.amqp_fields.proofs.Spans.{Stands}
use proofs.Twins.{AreSame, none_same}
use proofs.Payloads.{IsPayload, header_round, method_round, version_round}

-- a frame is as long as its payload and what stands around it
pub around_fits : (kind : AMQPFrameType) (p n : ℕ) → 8 ≤ n → (kind ≢ kinds.ProtocolHeader → p + 8 ≤ n) → length_around kind p ≤ n
around_fits kinds.ProtocolHeader p n least beside = least
around_fits kind p n least beside = beside (λ e. absurd cc)

-- the length of what is encoded is written in four bytes
pub spelled_few : (frame : Frame) (bytes : List ℕ) → Spells plain bytes frame → length bytes < 2 ^ 32 + 8
spelled_few (Proto major minor revision) bytes s = omega (arith, ap length s)
spelled_few (Meth channel m) bytes s = omega (arith, ap length s.is_framed.bytes_are, framed_length 1 channel s.payload)
spelled_few (Head channel header) bytes s = omega (arith, ap length s.is_framed.bytes_are, framed_length 2 channel s.payload)
spelled_few (Body channel content) bytes s = omega (arith, ap length s.bytes_are, framed_length 3 channel content)
spelled_few Beat bytes s = omega (arith, ap length s.is_framed.bytes_are, framed_length 8 0 s.payload)
spelled_few (BadBeat channel) bytes s =
    omega (arith, ap length s.1.is_framed.bytes_are, framed_length 8 channel s.1.payload)

-- the header scan finds the payload that was made
pub scan_made : (k : ℕ) (kind : AMQPFrameType) (channel : ℕ) (payload : List ℕ) → channel < 2 ^ 16 → length payload < 2 ^ 32
    → IsWithin (Some k) (bytes_as kind channel payload) → (kind ≡ kinds.ProtocolHeader → (channel ≡ 0) × (length payload ≡ 3))
    → scan (Some k) (bytes_as kind channel payload) ≡ took (raw_as kind channel payload) (length (bytes_as kind channel payload))
scan_made k kinds.ProtocolHeader channel (a ∷ b ∷ c ∷ []) on few within version =
    scan_version (Some k) a b c ∙ ap (λ n. took (raw_as kinds.ProtocolHeader n (a ∷ b ∷ c ∷ [])) 8) (sym (version refl).0)
scan_made k kinds.ProtocolHeader channel payload on few within version = absurd (omega (arith, (version refl).1))
scan_made k kinds.Method channel payload on few within version =
    scan-method (Some k) _ channel payload (record { channel_fits = on; length_fits = few; bytes_are = refl }) within
scan_made k kinds.Header channel payload on few within version =
    scan-header (Some k) _ channel payload (record { channel_fits = on; length_fits = few; bytes_are = refl }) within
scan_made k kinds.Body channel payload on few within version =
    scan-body (Some k) _ channel payload (record { channel_fits = on; length_fits = few; bytes_are = refl }) within
scan_made k kinds.Heartbeat channel payload on few within version =
    scan-beat (Some k) _ channel payload (record { channel_fits = on; length_fits = few; bytes_are = refl }) within

-- where the payload of a frame stands, and that its length is written in four bytes where the frame is not too long
pub record IsMadeFrame (kind : AMQPFrameType) (channel : ℕ) (payload rest : List ℕ) : Type 0 where
  pub there : take (length payload) (drop (payload_place kind) (bytes_as kind channel payload ++ rest)) ≡ payload
  pub within : payload_place kind + length payload ≤ length (bytes_as kind channel payload)
  pub few : length (bytes_as kind channel payload) < 2 ^ 32 + 8 → (kind ≡ kinds.ProtocolHeader → length payload ≡ 3) → length payload < 2 ^ 32

framed_at : (payload rest : List ℕ) → take (length payload) ((payload ++ (206 ∷ [])) ++ rest) ≡ payload
framed_at payload rest = ap (take (length payload)) (append_assoc payload (206 ∷ []) rest) ∙ take_at payload (206 ∷ rest) (length payload) refl

pub made_frame_is : (kind : AMQPFrameType) (channel : ℕ) (payload rest : List ℕ) → IsMadeFrame kind channel payload rest
made_frame_is kinds.ProtocolHeader channel payload rest =
    record { there = take_at payload rest (length payload) refl; within = omega arith; few = λ few three. omega (arith, three refl) }
made_frame_is kind channel payload rest =
    let size = framed_length (byte_of kind) channel payload in
    record { there = framed_at payload rest; within = omega arith; few = λ few three. omega (arith, few) }

-- a protocol header of eight bytes has three numbers
pub version_size : (kind : AMQPFrameType) (channel : ℕ) (payload : List ℕ) → kind ≡ kinds.ProtocolHeader → length (bytes_as kind channel payload) ≡ 8
    → length payload ≡ 3
version_size kind channel payload is eight = let whole = ap (λ k. length (bytes_as k channel payload)) is in omega arith

-- a protocol header has no channel, and eight bytes
pub version_told : (pool : List ℕ) (nodes : List Node) (head : given.Head) (frame : Frame) → head.frame_type ≡ protocol_byte
    → TellsTyped pool nodes head frame → (head.channel ≡ 0) × ((bytes : List ℕ) → Spells plain bytes frame → length bytes ≡ 8)
version_told pool nodes head (Proto major minor revision) is told = (told.1, λ bytes s. ap length s)
version_told pool nodes head frame is told = absurd (omega arith)

-- the type of a body
pub body_kind : (kind : AMQPFrameType) → byte_of kind ≡ body_byte → kind ≡ kinds.Body
body_kind kinds.Body is = refl
body_kind kind is = absurd (omega arith)

-- where the header scan finds a frame, its payload is decoded as the verdict has it
pub whole_is : (k : ℕ) (bytes : List ℕ) (raw : Raw) (n : ℕ) (frame : Frame) → scan (Some k) bytes ≡ took raw n
    → judge_frame plain (Some k) bytes ≡ took frame n → decode_raw raw ≡ Ok frame
unfolding judge_frame
whole_is k bytes raw n frame found is = (judge_decoded-is true (decode_raw raw) n frame n (sym (ap (judge_scanned plain) found) ∙ is)).1

-- such bytes are made of what was made
pub made_as : {Why : Refusal → Type 0} {P : List ℕ → Type 0} (made : Made) (bytes : List ℕ) → made ≡ Ok bytes → Fits Why made P → P bytes
made_as {Why} {P} (Ok x) bytes is h = let same : x ≡ bytes = cc in subst P same h.suits
made_as (Err bad) bytes is h = absurd cc

-- a head makes its payload with what is around it, where the payload is within the limit
payload_framed : (pool : List ℕ) (nodes : List Node) (k : ℕ) (head : given.Head) (payload : List ℕ) → (head.frame_type ≡ protocol_byte → ⊥)
    → made_payload pool nodes head ≡ Ok payload → length payload ≤ k → made_typed pool nodes k head ≡ Ok (framed head.frame_type head.channel payload)
unfolding made_typed
payload_framed pool nodes k head payload differs is within =
    let given = given_within pool nodes head payload is in
    let other : (head.frame_type == protocol_byte) ≡ false = grind (arith, nat_tests) in
    let few : are_beyond k nodes head ≡ false = grind (arith, nat_tests) in
    let short : nat_lt k (length payload) ≡ false = grind (arith, nat_tests) in
    rw (other, few, is, short)

-- A head and its nodes make a frame at each limit that its payload keeps. It is no longer than what was read, and the nodes of its
-- payload, wherever it stands, say the same.
pub record IsFrame (pool : List ℕ) (deep : Bool) (nodes : List Node) (channel : ℕ) (own : List Node) (kind : AMQPFrameType) (payload : List ℕ)
    (head : given.Head) : Type 0 where
  pub made : List ℕ
  pub typed_is : (k : ℕ) → length_around kind (length payload) ≤ k + 8 → made_typed pool nodes k head ≡ Ok (bytes_as kind channel made)
  pub body : kind ≡ kinds.Body → made ≡ payload
  pub whole_size : length (bytes_as kind channel made) ≤ length_around kind (length payload)
  pub again : (other : List ℕ) (end : ℕ) → Stands other end made → AreSame (not deep) pool other own (payload_nodes kind deep end made)

module _ (start first channel : ℕ) (own : List Node) where
  -- the head of a frame that was read
  abbrev pub head_as : AMQPFrameType → List ℕ → Frame → given.Head
  head_as kind payload frame = head_of (raw_as kind channel payload) (outline_of frame) start first (length own)

module _ {pool : List ℕ} (fits : IsBytes pool) (deep : Bool) (nodes : List Node) (start first channel : ℕ) (own : List Node) where
  -- a frame that is no protocol header, by its payload
  around : (kind : AMQPFrameType) (payload : List ℕ) (frame : Frame) {make : ℕ → List Node → Made} → (byte_of kind ≡ protocol_byte → ⊥)
      → own ≡ payload_nodes kind deep (start + length payload) payload → (round : IsPayload pool deep kind make (start + length payload) payload)
      → (kind ≡ kinds.Body → round.made ≡ payload)
      → made_payload pool nodes (head_as start first channel own kind payload frame) ≡ make (first + length own) own
      → IsFrame pool deep nodes channel own kind payload (head_as start first channel own kind payload frame)
  around kinds.ProtocolHeader payload frame other own_is round body is = absurd (other refl)
  around kind payload frame {make} other own_is round body is = record {
    made = round.made;
    typed_is = λ k within.
        payload_framed pool nodes k (head_as start first channel own kind payload frame) round.made other
        (is ∙ ap (make (first + length own)) own_is ∙ round.made_is (first + length own)) (omega (arith, round.made_size));
    body = body;
    whole_size = omega (arith, framed_length (byte_of kind) channel round.made, round.made_size);
    again = λ other at stands. rw own_is (round.again other at stands);
  }

  -- a frame of any type
  pub frame_round : (kind : AMQPFrameType) (payload : List ℕ) (frame : Frame) → (kind ≡ kinds.ProtocolHeader → channel ≡ 0)
      → IsSpan pool start (length payload) payload → decode_payload kind channel payload ≡ Ok frame
      → own ≡ payload_nodes kind deep (start + length payload) payload
      → nodes_in nodes (head_as start first channel own kind payload frame) ≡ Some own
      → IsFrame pool deep nodes channel own kind payload (head_as start first channel own kind payload frame)
  unfolding decode_payload listed_payload made_typed made_payload made_body made_beat
  frame_round kinds.ProtocolHeader (a ∷ b ∷ c ∷ []) frame free span h own_is there =
      let is : Proto a b c ≡ frame = cc in
      let head = head_as start first channel own kinds.ProtocolHeader (a ∷ b ∷ c ∷ []) (Proto a b c) in
      let round = version_round fits deep (start + 3) a b c (span_stands pool (a ∷ b ∷ c ∷ []) start span) in
      let front = after (Ok (protocol_byte ∷ protocol_mark)) in
      let made : IsFrame pool deep nodes channel own kinds.ProtocolHeader (a ∷ b ∷ c ∷ []) head = record {
        made = round.made;
        typed_is = λ k within.
            version_parts pool nodes own head (first + length own) there refl refl (free refl)
            ∙ ap front (ap (made_slots pool (first + length own) 0 version_slots) own_is ∙ round.made_is (first + length own));
        body = λ is. absurd cc;
        whole_size = omega (arith, round.made_size);
        again = λ other at stands. rw own_is (round.again other at stands);
      } in
      let payload = a ∷ b ∷ c ∷ [] in
      subst (λ f. IsFrame pool deep nodes channel own kinds.ProtocolHeader payload (head_as start first channel own kinds.ProtocolHeader payload f)) is made
  frame_round kinds.ProtocolHeader payload frame free span h own_is there = absurd cc
  frame_round kinds.Method payload frame free span h own_is there =
      let read = read_as (λ x. Meth channel x) (all_of judge_payload payload) frame h in
      let m = filled_took (length payload) (judge_payload payload) read.0 read.1 in
      let known = method_round fits deep (start + length payload) payload m.0 read.0 (span_stands pool payload start span) m.1 in
      let head = head_as start first channel own kinds.Method payload (Meth channel read.0) in
      subst (λ f. IsFrame pool deep nodes channel own kinds.Method payload (head_as start first channel own kinds.Method payload f)) read.2
      (around kinds.Method payload (Meth channel read.0) (λ e. absurd (omega arith)) own_is known.round (λ is. absurd cc)
      (method_parts pool nodes own head (first + length own) there refl known.slots known.known refl))
  frame_round kinds.Header payload frame free span h own_is there =
      let read = read_as (λ x. Head channel x) (all_of judge_content_header payload) frame h in
      let header = filled_took (length payload) (judge_content_header payload) read.0 read.1 in
      let head = head_as start first channel own kinds.Header payload (Head channel read.0) in
      let round =
      header_round fits deep (header_front head) refl (start + length payload) payload header.0 read.0 (span_stands pool payload start span) header.1 in
      subst (λ f. IsFrame pool deep nodes channel own kinds.Header payload (head_as start first channel own kinds.Header payload f)) read.2
      (around kinds.Header payload (Head channel read.0) (λ e. absurd (omega arith)) own_is round (λ is. absurd cc)
      (header_parts pool nodes own head (first + length own) there refl refl))
  frame_round kinds.Body payload frame free span h own_is there =
      let is : Body channel payload ≡ frame = cc in
      let head = head_as start first channel own kinds.Body payload (Body channel payload) in
      let free : (has_no_ids head && (head.nodes == 0)) ≡ true = grind (arith, nat_tests, ap length own_is) in
      let within_pool : nat_le (start + length payload) (length pool) ≡ true = grind (arith, nat_tests) in
      subst (λ f. IsFrame pool deep nodes channel own kinds.Body payload (head_as start first channel own kinds.Body payload f)) is
      (around kinds.Body payload (Body channel payload) {make = λ at ns. Ok payload} (λ e. absurd (omega arith)) own_is
      (record { made = payload; made_is = λ at. refl; made_size = omega arith; again = λ other at stands. none_same }) (λ is. refl)
      (rw (free, within_pool, span.bytes_are)))
  frame_round kinds.Heartbeat payload frame free span h own_is there =
      let is : beat_on channel ≡ frame = cc in
      subst (λ f. IsFrame pool deep nodes channel own kinds.Heartbeat payload (head_as start first channel own kinds.Heartbeat payload f)) is
      (around kinds.Heartbeat payload (beat_on channel) {make = λ at ns. Ok []} (λ e. absurd (omega arith)) own_is
      (record { made = []; made_is = λ at. refl; made_size = omega arith; again = λ other at stands. none_same }) (λ is. absurd cc)
      (rw (no_ids (channel == 0) own_is)))
    where
      no_ids : (t : Bool) → own ≡ []
          → (let head = head_as start first channel own kinds.Heartbeat payload (cond t Beat (BadBeat channel)) in has_no_ids head && (head.nodes == 0)) ≡ true
      no_ids true empty = grind (arith, nat_tests, ap length empty)
      no_ids false empty = grind (arith, nat_tests, ap length empty)
