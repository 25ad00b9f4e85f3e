-- The nodes of whole payloads: those of a frame, at most one a byte, and where they stand once they were put.
use Rattle.std.proofs.Common.{IsOk, take-suc-set, length-set, ◌≡◌, ℕ, suc, ◌+◌, ◌-◌, ◌<◌, ◌≤◌, ◌^◌, ◌==◌, cond, Bool, true, false, List, [], ◌∷◌, ◌++◌, length}
use Rattle.std.proofs.Common.{take, drop, set, Result, Ok, Err, refl, sym, ap, ◌∙◌, append_assoc, append-nil, add-one, arith}
use Rattle.amqp_fields.proofs.Names.{take-set-le, Fault, Judged, took, judge_form, judge_slots, AMQPFrameType, Frame, Proto, Meth, Head, Body, Beat, BadBeat}
use Rattle.amqp_fields.proofs.Names.{beat_on, outline_of, Node, Grows, Listing, listing, pushed, pushed_all, listed_payload, payload_nodes, version_slots}
use Rattle.amqp_fields.proofs.Names.{count_of, Counts, AreNodesOf, IsSpan, fields_of}
use Rattle.amqp_types.specs.Methods.{judge_payload}
use Rattle.amqp_types.specs.ContentHeaders.{judge_content_header}
use Rattle.amqp_types.specs.Slots.{number_item}
use Rattle.amqp_wire.specs.declared.frame_type.AMQPFrameType.TheVariants as kinds
use Rattle.amqp_wire.specs.Verdicts.{all_of, filling, decode_raw, decode_payload}
use Rattle.amqp_wire.proofs.Encoded.{read_as}
use Rattle.amqp_wire.proofs.Payloads as payloads
use Rattle.amqp_fields.specs.Reading.{IsWhole, NeedsMore, StandInFront, fields_nodes, payload_as}
use Rattle.amqp_fields.proofs.Pushing.{pushed_count}
use Rattle.amqp_fields.proofs.Spans.{Stands, itself}
use Rattle.amqp_fields.proofs.Groups.{IsAt}
use Rattle.amqp_fields.proofs.FieldsFound.{slots_found}
use Rattle.amqp_fields.proofs.PayloadsFound.{IsListed, header_found, method_found}

-- ---- the list

-- a list is as long as it was, however many nodes are put
pub pushed_length : (s : Listing) (added : List Node) → length (pushed_all s added).nodes ≡ length s.nodes
unfolding pushed
pushed_length s [] = refl
pushed_length s (node ∷ added) = pushed_length (pushed s node) added ∙ length-set s.nodes s.count node

-- where all fit, they stand behind those that were there
pub pushed_front : (xs : List Node) (k : ℕ) (added : List Node) → k + length added ≤ length xs
    → take (k + length added) (pushed_all (listing xs k) added).nodes ≡ take k xs ++ added
unfolding pushed
pushed_front xs k [] fits = ap (λ n. take n xs) {x = k + 0} {y = k} (omega arith) ∙ sym (append-nil (take k xs))
pushed_front xs k (node ∷ added) fits =
    let size : k + suc (length added) ≡ k + 1 + length added = omega arith in
    rw size (pushed_front (set xs k node) (k + 1) added (omega (arith, length-set xs k node))
    ∙ rw (add-one k, take-suc-set xs k node (omega arith)) (append_assoc (take k xs) (node ∷ []) added))

-- what is put after so many nodes leaves these
pub pushed_keeps : (s : Listing) (k : ℕ) (added : List Node) → k ≤ s.count → take k (pushed_all s added).nodes ≡ take k s.nodes
unfolding pushed
pushed_keeps s k [] h = refl
pushed_keeps s k (node ∷ added) h = pushed_keeps (pushed s node) k added (omega arith) ∙ take-set-le k s.nodes s.count node h

-- ---- whole payloads

-- the nodes that were listed are those of the frame, with spans in some bytes
abbrev pub AreListed : AMQPFrameType → List ℕ → ℕ → List ℕ → Bool → Frame → Type 0
AreListed kind bytes end payload deep frame =
    IsListed deep bytes payload (listed_payload kind deep end payload) (fields_of frame) (count_of payload (outline_of frame))

-- where what is read fills all bytes, it was taken
pub filled_took : {A : Type 0} (n : ℕ) (j : Judged A) (x : A) → filling n j ≡ Ok x → (k : ℕ) × (j ≡ took x k)
filled_took n j x h = (n, payloads.filled_took n j x h)

-- no nodes, where there are no fields
none_listed : (payload : List ℕ) {deep : Bool} {bytes : List ℕ} → IsListed deep bytes payload (took [] 0) [] 0
none_listed payload = ([], 0, refl, record { number = refl; nodes_are = record { means = refl; few = omega arith } })

module _ (deep : Bool) (bytes : List ℕ) (end : ℕ) where
  at : {payload : List ℕ} → Stands bytes end payload → IsAt bytes (end - length payload) end payload
  at stands = record { stands = stands; room = omega arith }

  version_found : (payload : List ℕ) (channel : ℕ) (frame : Frame) → Stands bytes end payload
      → decode_payload kinds.ProtocolHeader channel payload ≡ Ok frame → AreListed kinds.ProtocolHeader bytes end payload deep frame
  unfolding decode_payload listed_payload fields_of judge_slots judge_form
  version_found [] channel frame stands h = absurd cc
  version_found (a ∷ []) channel frame stands h = absurd cc
  version_found (a ∷ b ∷ []) channel frame stands h = absurd cc
  version_found (a ∷ b ∷ c ∷ []) channel frame stands h =
      let is : Proto a b c ≡ frame = cc in
      let found =
      (slots_found deep bytes (end - 3) end version_slots (a ∷ b ∷ c ∷ []) 0 (omega arith) (at stands)).there
      (number_item a ∷ number_item b ∷ number_item c ∷ []) 3 refl in
      rw (← is) (found.0, 3, found.1, record { number = refl; nodes_are = record { means = found.3.fields.means; few = omega arith } })
  version_found (a ∷ b ∷ c ∷ d ∷ more) channel frame stands h = absurd cc

  -- the nodes that are listed of a whole payload are those of its frame, where they stand in some bytes
  pub whole_found : (kind : AMQPFrameType) (payload : List ℕ) (channel : ℕ) (frame : Frame) → Stands bytes end payload
      → decode_payload kind channel payload ≡ Ok frame → AreListed kind bytes end payload deep frame
  unfolding decode_payload listed_payload fields_of
  whole_found kinds.ProtocolHeader payload channel frame stands h = version_found payload channel frame stands h
  whole_found kinds.Method payload channel frame stands h =
      let read = read_as (λ x. Meth channel x) (all_of judge_payload payload) frame h in
      let m = filled_took (length payload) (judge_payload payload) read.0 read.1 in
      rw (← read.2) (method_found deep bytes (end - length payload) end payload m.0 read.0 (at stands) m.1)
  whole_found kinds.Header payload channel frame stands h =
      let read = read_as (λ x. Head channel x) (all_of judge_content_header payload) frame h in
      let header = filled_took (length payload) (judge_content_header payload) read.0 read.1 in
      rw (← read.2) (header_found deep bytes (end - length payload) end payload header.0 read.0 (at stands) header.1)
  whole_found kinds.Body payload channel frame stands h = let is : Body channel payload ≡ frame = cc in rw (← is) (none_listed payload)
  whole_found kinds.Heartbeat payload channel frame stands h = let is : beat_on channel ≡ frame = cc in rw (← is) (by_test (channel == 0))
    where
      by_test : (none : Bool) → AreListed kinds.Heartbeat bytes end payload deep (cond none Beat (BadBeat channel))
      by_test true = none_listed payload
      by_test false = none_listed payload

-- ---- what is promised of them

-- a span stands where it ends
pub span_stands : (bytes payload : List ℕ) (start : ℕ) → IsSpan bytes start (length payload) payload
    → Stands bytes (start + length payload) payload
span_stands bytes payload start span = record {
  within = span.within;
  fits = omega arith;
  is = ap (λ s. take (length payload) (drop s bytes)) {x = start + length payload - length payload} {y = start} (omega arith) ∙ span.bytes_are;
}

-- the nodes that are listed of a payload are those of its frame
pub listed_mean : (deep : Bool) (bytes payload : List ℕ) (start : ℕ) (kind : AMQPFrameType) (channel : ℕ) (frame : Frame)
    → IsSpan bytes start (length payload) payload → decode_payload kind channel payload ≡ Ok frame
    → AreNodesOf deep bytes frame (payload_nodes kind deep (start + length payload) payload)
listed_mean deep bytes payload start kind channel frame span is =
    let all = whole_found deep bytes (start + length payload) kind payload channel frame (span_stands bytes payload start span) is in
    rw all.2 all.3.nodes_are.means

pub is_ok : {A : Type 0} (read : Result A Fault) (x : A) → read ≡ Ok x → IsOk read
is_ok read x h = rw h

ok_of : {A : Type 0} (read : Result A Fault) → IsOk read → (x : A) × (read ≡ Ok x)
ok_of (Ok x) h = (x, refl)
ok_of (Err bad) h = absurd cc

-- a payload that a frame was decoded from encodes one
pub is_whole : (kind : AMQPFrameType) (payload : List ℕ) (frame : Frame) → decode_raw (payload_as kind payload) ≡ Ok frame → IsWhole kind payload
is_whole kind payload frame h = is_ok (decode_raw (payload_as kind payload)) frame h

-- a whole payload has at most as many nodes as bytes
pub fields_few : (kind : AMQPFrameType) (payload : List ℕ) (deep : Bool) → IsWhole kind payload
    → length (fields_nodes kind deep payload) ≤ length payload
fields_few kind payload deep h =
    let frame = ok_of (decode_raw (payload_as kind payload)) h in
    let all = whole_found deep payload (length payload) kind payload 0 frame.0 (itself payload) frame.1 in
    rw all.2 all.3.nodes_are.few

-- ---- nodes that were put after others

-- these nodes, after so many others
pub record ArePut (nodes : List Node) (old : List Node) (first : ℕ) (new : List Node) (count : ℕ) : Type 0 where
  pub count_is : count ≡ first + length nodes
  pub list_is : new ≡ (pushed_all (listing old first) nodes).nodes

-- what grew by some nodes has them after the others
pub grown : (nodes old new : List Node) (first count : ℕ) → Grows (listing old first) (listing new count) nodes
    → first + length nodes < 2 ^ 32 → ArePut nodes old first new count
grown nodes old new first count grows few =
    let same : listing new count ≡ pushed_all (listing old first) nodes = grows few in
    record { count_is = ap (λ (l : Listing). l.count) same ∙ pushed_count (listing old first) nodes; list_is = ap (λ (l : Listing). l.nodes) same }

-- a list that nodes were put into is as long as it was
pub put_length : (nodes old new : List Node) (first count : ℕ) → ArePut nodes old first new count → length new ≡ length old
put_length nodes old new first count put = ap length put.list_is ∙ pushed_length (listing old first) nodes

-- nodes for which the list has room stand in front of it
pub put_front : (nodes old new : List Node) (count : ℕ) → ArePut nodes old 0 new count → count ≤ length new → StandInFront nodes new count
put_front nodes old new count put room =
    record {
      count_is = omega arith;
      fit = room;
      front = rw (put.count_is, put.list_is) (pushed_front old 0 nodes (omega (arith, put_length nodes old new 0 count put)));
    }

-- and else the list is too short for them
pub put_needs : (nodes old new : List Node) (count : ℕ) → ArePut nodes old 0 new count → length new < count → NeedsMore nodes (length old) count
put_needs nodes old new count put more =
    record { needed_is = omega arith; more = omega (arith, put_length nodes old new 0 count put) }

-- the nodes of a whole payload, as they were put
pub put_all : (kind : AMQPFrameType) (bytes : List ℕ) (end : ℕ) (payload : List ℕ) (deep : Bool) (frame : Frame) (old new : List Node) (first count : ℕ)
    → (all : AreListed kind bytes end payload deep frame) → first + length payload < 2 ^ 32
    → Counts (listed_payload kind deep end payload) old first new count → ArePut (payload_nodes kind deep end payload) old first new count
put_all kind bytes end payload deep frame old new first count all few h =
    rw all.2 (grown all.0 old new first count (rw all.2 at h) (omega (arith, few, all.3.nodes_are.few)))

-- ---- the fields of a payload that stands alone

module _ (kind : AMQPFrameType) (payload : List ℕ) (deep : Bool) (old new : List Node) (count : ℕ) (frame : Frame) (few : length payload < 2 ^ 32)
    (is : decode_raw (payload_as kind payload) ≡ Ok frame)
    (h : Counts (listed_payload kind deep (length payload) payload) old 0 new count) where
  fields_put : ArePut (fields_nodes kind deep payload) old 0 new count
  fields_put =
      let all = whole_found deep payload (length payload) kind payload 0 frame (itself payload) is in
      put_all kind payload (length payload) payload deep frame old new 0 count all (omega (arith, few)) h

  -- the list is as long as it was
  pub fields_length : length new ≡ length old
  fields_length = put_length (fields_nodes kind deep payload) old new 0 count fields_put

  -- the nodes of the payload stand in front, where the list has room for them
  pub fields_listed : count ≤ length new → StandInFront (fields_nodes kind deep payload) new count
  fields_listed room = put_front (fields_nodes kind deep payload) old new count fields_put room

  -- and else it needs as many as they are
  pub fields_needed : length new < count → NeedsMore (fields_nodes kind deep payload) (length old) count
  fields_needed more = put_needs (fields_nodes kind deep payload) old new count fields_put more
