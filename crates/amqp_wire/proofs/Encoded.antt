-- What is decoded to be a frame encodes it.
use Rattle.std.proofs.Common.{◌≡◌, ◌≢◌, ℕ, ◌+◌, ◌≤◌, Bool, true, false, eqb, List, [], ◌∷◌, ◌++◌, length, get_or, take, drop, Option, Some, None, Result, Ok}
use Rattle.std.proofs.Common.{Err, refl, sym, ap, subst, ◌∙◌, arith, inl, inr}
use Rattle.std.specs.Prelude.{if◌then◌else◌}
use Rattle.std.proofs.lemmas.Bool.{cases_eq, eq-eqb, eqb-true, ne_eqb, and_parts}
use Rattle.std.proofs.lemmas.List.{length-take-le, get_or-append-add, take_more, nil_from_length}
use Rattle.std.proofs.lemmas.Nat.{be_bytes_2, be_bytes_4}
use Rattle.std.proofs.lemmas.Slice.Eq.{bytes_eq-Decides}
use Rattle.std.proofs.Math.Seq.{take-append-add}
use Rattle.std.specs.Int.{w16, from_be_bytes}
use Rattle.amqp_types.specs.Levels.{Level, plain, tidy, strict}
use Rattle.amqp_types.specs.Judging.{Fault, Judged, took, IsBytes}
use Rattle.amqp_types.specs.Numbers.{bytes2, bytes4, number_bytes}
use Rattle.amqp_types.specs.ValueJudging.{read_map}
use Rattle.amqp_types.specs.Methods.{Method, judge_payload}
use Rattle.amqp_types.specs.ContentHeaders.{ContentHeader, judge_content_header}
use Rattle.amqp_types.proofs.Bytes.{IsBytes-take, IsBytes-drop}
use Rattle.amqp_wire.specs.declared.frame_type.AMQPFrameType.{AMQPFrameType}
use Rattle.amqp_wire.specs.declared.frame_type.AMQPFrameType.TheVariants as kinds
use Rattle.amqp_wire.specs.Frames.{Frame, Proto, Meth, Head, Body, Beat, BadBeat, Raw, raw_as, beat_on}
use Rattle.amqp_wire.specs.HeaderScan.{type_of, payload_length, scan}
use Rattle.amqp_wire.specs.Canonical.{payload_of}
use Rattle.amqp_wire.specs.Verdicts.{all_of, decode_payload, decode_raw, is_tidy_as, is_written_for, is_at, judge_scanned, judge_decoded, judge_frame}
use Rattle.amqp_wire.specs.Spelling.{head, proto, byte_of, IsBeatPayload, IsFramed, IsBeat, Spells, IsWithin}
use Rattle.amqp_wire.proofs.HeaderScan.{IsMadeOf, IsVersion, IsFound, IsInBounds, made-length, scan-none, scan-took, scan-in_bounds}
use Rattle.amqp_wire.proofs.Typed.{method_at, method_spells, header_at, header_spells}

-- ---- type bytes

type_step : (b c : ℕ) (a kind : AMQPFrameType) (others : Option AMQPFrameType) → c ≡ byte_of a → (if eqb b c then Some a else others) ≡ Some kind
    → (others ≡ Some kind → b ≡ byte_of kind) → b ≡ byte_of kind
type_step b c a kind others is e next = elim (cases_eq b c) [
  | inl same ↦ let h = rw (eq-eqb b c same) at e in let one : a ≡ kind = cc in same ∙ is ∙ ap byte_of one
  | inr other ↦ next (rw (ne_eqb b c other) at e)
]

type_of-is : (b : ℕ) (kind : AMQPFrameType) → type_of b ≡ Some kind → b ≡ byte_of kind
type_of-is b kind e =
    type_step b 65 kinds.ProtocolHeader kind _ refl e
    (λ e. type_step b 1 kinds.Method kind _ refl e
    (λ e. type_step b 2 kinds.Header kind _ refl e
    (λ e. type_step b 3 kinds.Body kind _ refl e
    (λ e. type_step b 8 kinds.Heartbeat kind _ refl e
    (λ e. absurd cc)))))

-- ---- a frame that is no protocol header, after its type byte

-- its bytes are its encoding
framed-made : (m : Option ℕ) (kind : AMQPFrameType) (b : ℕ) (bytes : List ℕ) (raw : Raw) (n : ℕ) → IsBytes bytes → IsMadeOf m kind bytes raw n
    → IsFramed (b ∷ take n bytes) b (from_be_bytes w16 (take 2 bytes)) (take (payload_length bytes) (drop 6 bytes))
framed-made m kind b (c1 ∷ c0 ∷ n3 ∷ n2 ∷ n1 ∷ n0 ∷ tail) raw n fits h =
    let bytes = c1 ∷ c0 ∷ n3 ∷ n2 ∷ n1 ∷ n0 ∷ tail in
    let six = c1 ∷ c0 ∷ n3 ∷ n2 ∷ n1 ∷ n0 ∷ [] in
    let size = payload_length bytes in
    let channel = from_be_bytes w16 (take 2 bytes) in
    let payload = take size tail in
    let enough : size + 1 ≤ length tail = omega (arith, h.enough) in
    let len : length payload ≡ size = length-take-le size tail (omega arith) in
    let two : number_bytes bytes2 channel ≡ c1 ∷ c0 ∷ [] = be_bytes_2 (c1 ∷ c0 ∷ []) channel refl (IsBytes-take 2 bytes fits) refl in
    let four : number_bytes bytes4 size ≡ n3 ∷ n2 ∷ n1 ∷ n0 ∷ [] =
    be_bytes_4 (n3 ∷ n2 ∷ n1 ∷ n0 ∷ []) size refl (IsBytes-take 4 (n3 ∷ n2 ∷ n1 ∷ n0 ∷ tail) (IsBytes-drop 2 bytes fits)) refl in
    let front : head b channel (length payload) ≡ b ∷ six =
    ap (λ k. head b channel k) len ∙ ap (λ (xs : List ℕ). b ∷ (xs ++ number_bytes bytes4 size)) two ∙ ap (λ (xs : List ℕ). b ∷ c1 ∷ c0 ∷ xs) four in
    let last : get_or tail size 0 ≡ 206 = sym (get_or-append-add six tail size 0) ∙ ap (λ i. get_or bytes i 0) {x = 6 + size} (omega arith) ∙ h.end in
    let tail-is : take (size + 1) tail ≡ payload ++ 206 ∷ [] = take_more tail size 0 (omega arith) ∙ ap (λ x. payload ++ x ∷ []) last in
    record {
      channel_fits = omega (arith, fits 0, fits 1);
      length_fits = omega (arith, len, fits 2, fits 3, fits 4, fits 5);
      bytes_are =
          ap (λ i. b ∷ take i bytes) {x = n} {y = 6 + (size + 1)} (omega (arith, h.size))
          ∙ ap (λ (xs : List ℕ). b ∷ xs) (take-append-add six tail (size + 1) ∙ ap (λ (xs : List ℕ). six ++ xs) tail-is)
          ∙ ap (λ (xs : List ℕ). xs ++ (payload ++ 206 ∷ [])) (sym front);
    }
framed-made m kind b bytes raw n fits h = absurd (omega (arith, h.enough))

-- ---- the frame of a whole payload

-- A heartbeat is written with no payload.
pub payload_of-beat : (channel : ℕ) → payload_of (beat_on channel) ≡ []
payload_of-beat channel = elim (cases_eq channel 0) [ inl none ↦ rw (eq-eqb channel 0 none) refl | inr some ↦ rw (ne_eqb channel 0 some) refl ]

at_beat : (level : Level) (channel : ℕ) (payload : List ℕ) → is_at level (raw_as kinds.Heartbeat channel payload) ≡ true → IsBeatPayload level payload
unfolding is_tidy_as decode_payload
at_beat plain channel payload e = tt
at_beat tidy channel payload e = nil_from_length payload (eqb-true (length payload) 0 e)
at_beat strict channel payload e = (bytes_eq-Decides payload (payload_of (beat_on channel))).0 e ∙ payload_of-beat channel

-- the frame that a payload was read as, by what was read of it
pub read_as : {A : Type 0} (make : A → Frame) (read : Result A Fault) (f : Frame) → read_map make read ≡ Ok f → (x : A) × (read ≡ Ok x) × (make x ≡ f)
read_as make (Ok x) f h = (x, refl, cc)
read_as make (Err bad) f h = absurd cc

-- The level of the frame of a method is that of its payload.
pub at_method : (level : Level) (channel : ℕ) (payload : List ℕ) (m : Method) → all_of judge_payload payload ≡ Ok m
    → is_at level (raw_as kinds.Method channel payload) ≡ method_at level payload m
unfolding is_tidy_as decode_payload
at_method strict channel payload m w = ap (λ read. is_written_for (read_map (λ x. Meth channel x) read) payload) w
at_method level channel payload m w = refl

-- The level of the frame of a content header is that of its payload.
pub at_header : (level : Level) (channel : ℕ) (payload : List ℕ) (header : ContentHeader) → all_of judge_content_header payload ≡ Ok header
    → is_at level (raw_as kinds.Header channel payload) ≡ header_at level payload header
unfolding is_tidy_as decode_payload
at_header strict channel payload header w = ap (λ read. is_written_for (read_map (λ x. Head channel x) read) payload) w
at_header level channel payload header w = refl

-- what encodes a frame, by its type
pub spells_as : (level : Level) (bytes : List ℕ) (kind : AMQPFrameType) (channel : ℕ) (payload : List ℕ) (f : Frame)
    → IsBytes payload → IsFramed bytes (byte_of kind) channel payload → decode_payload kind channel payload ≡ Ok f
    → is_at level (raw_as kind channel payload) ≡ true → kind ≢ kinds.ProtocolHeader → Spells level bytes f
unfolding decode_payload
spells_as level bytes kinds.ProtocolHeader channel payload f fits is_framed is_whole at_level other = absurd (other refl)
spells_as level bytes kinds.Method channel payload f fits is_framed is_whole at_level other =
    let read = read_as (λ x. Meth channel x) (all_of judge_payload payload) f is_whole in
    rw (← read.2) (record {
      payload = payload;
      is_framed = is_framed;
      spelled = method_spells level payload read.0 fits read.1 (sym (at_method level channel payload read.0 read.1) ∙ at_level);
    })
spells_as level bytes kinds.Header channel payload f fits is_framed is_whole at_level other =
    let read = read_as (λ x. Head channel x) (all_of judge_content_header payload) f is_whole in
    rw (← read.2) (record {
      payload = payload;
      is_framed = is_framed;
      spelled = header_spells level payload read.0 fits read.1 (sym (at_header level channel payload read.0 read.1) ∙ at_level);
    })
spells_as level bytes kinds.Body channel payload f fits is_framed is_whole at_level other =
    let e : Body channel payload ≡ f = cc in
    rw (← e) is_framed
spells_as level bytes kinds.Heartbeat channel payload f fits is_framed is_whole at_level other =
    let beat : IsBeat level bytes channel = record { payload = payload; is_framed = is_framed; at_level = at_beat level channel payload at_level } in
    elim (cases_eq channel 0) [
      | inl none ↦
          let e : Beat ≡ f = let x = rw (eq-eqb channel 0 none) at is_whole in cc in
          rw (← e, ← none) beat
      | inr some ↦
          let e : BadBeat channel ≡ f = let x = rw (ne_eqb channel 0 some) at is_whole in cc in
          rw (← e) (omega arith, beat)
    ]

-- ---- the verdict

-- A frame that is decoded has the level, is what its payload was decoded to, and uses what the header scan used.
pub judge_decoded-is : (at_level : Bool) (r : Result Frame Fault) (n : ℕ) (f : Frame) (k : ℕ)
    → judge_decoded at_level r n ≡ took f k → (at_level ≡ true) × (r ≡ Ok f) × (n ≡ k)
judge_decoded-is true (Ok g) n f k e = (refl, cc, cc)
judge_decoded-is false (Ok g) n f k e = absurd cc
judge_decoded-is at_level (Err bad) n f k e = absurd cc

-- the frame of a raw frame that stands at the front
pub record IsFrameOf (level : Level) (j : Judged Raw) (f : Frame) (n : ℕ) : Type 0 where
  pub raw : Raw
  pub found : j ≡ took raw n
  pub at_level : is_at level raw ≡ true
  pub is_whole : decode_raw raw ≡ Ok f

-- What a verdict takes is the frame of what the header scan took.
pub judged-is : (level : Level) (j : Judged Raw) (f : Frame) (n : ℕ) → judge_scanned level j ≡ took f n → IsFrameOf level j f n
judged-is level (took raw k) f n e =
    let h = judge_decoded-is (is_at level raw) (decode_raw raw) k f n e in
    record { raw = raw; found = ap (λ i. took raw i) h.2; at_level = h.0; is_whole = h.1 }
judged-is level j f n e = absurd cc

version_spells : (level : Level) (bytes : List ℕ) (raw : Raw) (n : ℕ) (f : Frame) → IsVersion bytes raw n
    → decode_raw raw ≡ Ok f → Spells level (65 ∷ take n bytes) f
unfolding decode_payload
version_spells level (a ∷ b ∷ c ∷ d ∷ x ∷ y ∷ z ∷ tail) raw n f h is_whole =
    let p = and_parts (eqb a 77) _ h.begins in
    let q = and_parts (eqb b 81) _ p.1 in
    let r = and_parts (eqb c 80) _ q.1 in
    let s = and_parts (eqb d 0) _ r.1 in
    let w = rw h.raw_is at is_whole in
    let e : Proto x y z ≡ f = cc in
    let spelled : 65 ∷ take n (a ∷ b ∷ c ∷ d ∷ x ∷ y ∷ z ∷ tail) ≡ proto x y z =
    rw (h.size, eqb-true a 77 p.0, eqb-true b 81 q.0, eqb-true c 80 r.0, eqb-true d 0 s.0) refl in
    rw (← e) spelled
version_spells level bytes raw n f h is_whole = absurd (omega (arith, h.enough))

found_spells : (level : Level) (m : Option ℕ) (kind : AMQPFrameType) (bytes : List ℕ) (raw : Raw) (n : ℕ) (f : Frame)
    → IsBytes bytes → IsFound m kind bytes raw n → is_at level raw ≡ true → decode_raw raw ≡ Ok f → Spells level (byte_of kind ∷ take n bytes) f
found_spells level m kinds.ProtocolHeader bytes raw n f fits h at_level is_whole = version_spells level bytes raw n f h is_whole
found_spells level m kind bytes raw n f fits h at_level is_whole =
    let P : Raw → Type 0 = λ r. is_at level r ≡ true → decode_raw r ≡ Ok f → Spells level (byte_of kind ∷ take n bytes) f in
    subst P (sym h.raw_is)
    (λ at is. spells_as level _ kind _ _ f (IsBytes-take (payload_length bytes) (drop 6 bytes) (IsBytes-drop 6 bytes fits))
    (framed-made m kind (byte_of kind) bytes raw n fits h) is at (λ x. absurd cc)) at_level is_whole

scan_spells : (level : Level) (m : Option ℕ) (bytes : List ℕ) (raw : Raw) (n : ℕ) (f : Frame)
    → IsBytes bytes → scan m bytes ≡ took raw n → is_at level raw ≡ true → decode_raw raw ≡ Ok f → Spells level (take n bytes) f
scan_spells level m [] raw n f fits e at_level is_whole = absurd (let none = scan-none m in cc)
scan_spells level m (b ∷ bytes) raw n f fits e at_level is_whole =
    let t = scan-took m b bytes raw n e in
    let same : byte_of t.kind ∷ take t.used bytes ≡ take n (b ∷ bytes) =
    ap (λ x. x ∷ take t.used bytes) (sym (type_of-is b t.kind t.named)) ∙ ap (λ k. take k (b ∷ bytes)) (sym t.count) in
    rw (← same) (found_spells level m t.kind bytes raw t.used f (IsBytes-drop 1 (b ∷ bytes) fits) t.found at_level is_whole)

within_taken : (m : Option ℕ) (bytes : List ℕ) (raw : Raw) (n : ℕ) → IsInBounds m bytes raw n → IsWithin m (take n bytes)
within_taken None bytes raw n h = tt
within_taken (Some k) bytes raw n h = omega (arith, h.limit k refl, length-take-le n bytes h.within)

-- The bytes that decoding a frame uses encode that frame at its level, and within the limit.
pub verdict-spells : (level : Level) (m : Option ℕ) (bytes : List ℕ) (f : Frame) (n : ℕ) → IsBytes bytes
    → judge_frame level m bytes ≡ took f n → Spells level (take n bytes) f × IsWithin m (take n bytes)
unfolding judge_frame
verdict-spells level m bytes f n fits e =
    let h = judged-is level (scan m bytes) f n e in
    (scan_spells level m bytes h.raw n f fits h.found h.at_level h.is_whole, within_taken m bytes h.raw n (scan-in_bounds m bytes h.raw n h.found))

-- ---- a frame that is no protocol header has eight bytes beside its payload

found_beside : (m : Option ℕ) (kind : AMQPFrameType) (bytes : List ℕ) (raw : Raw) (n : ℕ)
    → IsFound m kind bytes raw n → raw.kind ≢ kinds.ProtocolHeader → length raw.payload + 7 ≤ n
found_beside m kinds.ProtocolHeader bytes raw n h other = absurd (other (ap (λ r. r.kind) h.raw_is))
found_beside m kind bytes raw n h other = omega (arith, made-length m kind bytes raw n h, h.size)

-- A frame other than a protocol header uses at least eight bytes more than its payload has.
pub scan-beside : (m : Option ℕ) (bytes : List ℕ) (raw : Raw) (n : ℕ)
    → scan m bytes ≡ took raw n → raw.kind ≢ kinds.ProtocolHeader → length raw.payload + 8 ≤ n
scan-beside m [] raw n e other = absurd (let none = scan-none m in cc)
scan-beside m (b ∷ bytes) raw n e other =
    let t = scan-took m b bytes raw n e in
    omega (arith, found_beside m t.kind bytes raw t.used t.found other, t.count)
