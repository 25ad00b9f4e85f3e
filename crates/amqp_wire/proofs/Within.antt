-- What was read has a size, which is no more than it was read from; and which errors a whole payload has.
use Rattle.std.proofs.Common.{◌≡◌, ℕ, ◌+◌, ◌^◌, ◌<◌, List, [], ◌∷◌, length, take, None, Result, Ok, Err, refl, subst, ap, arith, inl, inr}
use Rattle.std.proofs.lemmas.Bool.{cases_eq, eq-eqb, ne_eqb}
use Rattle.std.proofs.lemmas.List.{length-take-le}
use Rattle.amqp_types.specs.Levels.{plain}
use Rattle.amqp_types.specs.Judging.{Fault, Judged, past, fault, took, trailing_bytes, short_payload, unknown_frame_type, bad_protocol_header, bad_frame_end}
use Rattle.amqp_types.specs.Judging.{IsBytes}
use Rattle.amqp_types.specs.Answers.{RefusesWhole}
use Rattle.amqp_types.specs.PayloadFaults.{IsInside}
use Rattle.amqp_types.specs.ValueJudging.{read_map}
use Rattle.amqp_types.specs.ValueLaws.{IsNoLonger as IsSizedWithin}
use Rattle.amqp_types.specs.Methods.{judge_payload}
use Rattle.amqp_types.specs.ContentHeaders.{judge_content_header}
use Rattle.amqp_types.specs.declared.errors.ParserError.{ParserError}
use Rattle.amqp_types.specs.declared.errors.ParserError.TheVariants as errors
use Rattle.amqp_laws.proofs.PayloadFaults.{payloads_inside}
use Rattle.amqp_laws.proofs.PropertyFaults.{content_headers_inside}
use Rattle.amqp_wire.specs.declared.frame_type.AMQPFrameType.{AMQPFrameType}
use Rattle.amqp_wire.specs.declared.frame_type.AMQPFrameType.TheVariants as kinds
use Rattle.amqp_wire.specs.Frames.{Frame, Proto, Meth, Head}
use Rattle.amqp_wire.specs.Spelling.{framed, proto, byte_of}
use Rattle.amqp_wire.specs.Canonical.{canon, size_of}
use Rattle.amqp_wire.specs.Verdicts.{IsPayloadError, filling, all_of, decode_payload, judge_frame}
use Rattle.amqp_wire.proofs.Cuts.{verdict-got_within}
use Rattle.amqp_wire.proofs.Encoded.{spells_as, verdict-spells}
use Rattle.amqp_wire.proofs.Strictness.{spelled_sized}
use Rattle.amqp_wire.proofs.Sizes.{framed_length}

-- ---- sizes

-- a frame around the payload is encoded by eight bytes more
around : (kind : AMQPFrameType) (channel : ℕ) (payload : List ℕ) (f : Frame) → (kind ≡ kinds.ProtocolHeader → ⊥) → channel < 2 ^ 16
    → IsBytes payload → length payload < 2 ^ 32 → decode_payload kind channel payload ≡ Ok f → IsSizedWithin (size_of f) (canon f) (length payload + 8)
around kind channel payload f other on fits few e =
    let bytes = framed (byte_of kind) channel payload in
    let spelled = spells_as plain bytes kind channel payload f fits (record { channel_fits = on; length_fits = few; bytes_are = refl }) e refl other in
    subst (IsSizedWithin (size_of f) (canon f)) (framed_length (byte_of kind) channel payload) (spelled_sized bytes f spelled)

header_sized : (a b c : ℕ) (f : Frame) → Proto a b c ≡ f → IsSizedWithin (size_of f) (canon f) 11
header_sized a b c f same =
    let sized = spelled_sized (proto a b c) (Proto a b c) refl in
    subst (λ g. IsSizedWithin (size_of g) (canon g) 11) same (record { sized = sized.sized; shorter = omega (arith, sized.shorter) })

-- A frame that was decoded from a whole payload has a size, which is at most that of the payload and eight bytes.
pub whole_sized : (kind : AMQPFrameType) (channel : ℕ) (payload : List ℕ) (f : Frame) → channel < 2 ^ 16 → IsBytes payload
    → length payload < 2 ^ 32 → decode_payload kind channel payload ≡ Ok f → IsSizedWithin (size_of f) (canon f) (length payload + 8)
unfolding decode_payload
whole_sized kinds.ProtocolHeader channel (a ∷ b ∷ c ∷ []) f on fits few e = header_sized a b c f cc
whole_sized kinds.ProtocolHeader channel payload f on fits few e = absurd cc
whole_sized kind channel payload f on fits few e = around kind channel payload f (λ h. absurd cc) on fits few e

-- A frame that was decoded at level plain has a size, which is no more than the bytes that it used.
pub verdict_sized : (bytes : List ℕ) (f : Frame) (n : ℕ) → IsBytes bytes → judge_frame plain None bytes ≡ took f n → IsSizedWithin (size_of f) (canon f) n
verdict_sized bytes f n fits e =
    let spelled = verdict-spells plain None bytes f n fits e in
    subst (IsSizedWithin (size_of f) (canon f))
    (length-take-le n bytes (verdict-got_within plain None bytes f n e).1) (spelled_sized (take n bytes) f spelled.0)

-- ---- errors

-- a fault of what stands in a whole payload, or after it
abbrev pub IsWhole : Fault → Type 0
IsWhole trailing_bytes = Unit {0}
IsWhole bad = IsInside bad

inside_whole : (bad : Fault) → IsInside bad → IsWhole bad
inside_whole trailing_bytes h = tt
inside_whole bad h = h

-- A payload that is not decoded whole has a fault of its inside, or trailing bytes.
pub filling_fails : {A : Type 0} (n : ℕ) (j : Judged A) (bad : Fault) → ((one : Fault) → j ≡ fault one → IsInside one) → filling n j ≡ Err bad → IsWhole bad
filling_fails n past bad inside h = let same : short_payload ≡ bad = cc in rw (← same) tt
filling_fails n (fault one) bad inside h = let same : one ≡ bad = cc in rw (← same) (inside_whole one (inside one refl))
filling_fails n (took x used) bad inside h = elim (cases_eq used n) [
  | inl same ↦ absurd (let e = rw (eq-eqb used n same) at h in cc)
  | inr other ↦ let e = rw (ne_eqb used n other) at h in let same : trailing_bytes ≡ bad = cc in rw (← same) tt
]

map_fails : {A B : Type 0} (make : A → B) (r : Result A Fault) (bad : Fault) → read_map make r ≡ Err bad → r ≡ Err bad
map_fails make (Ok x) bad h = absurd cc
map_fails make (Err one) bad h = let same : one ≡ bad = cc in ap Err same

-- A whole payload is refused for what stands inside it, or for trailing bytes.
pub whole_fails : (kind : AMQPFrameType) (channel : ℕ) (payload : List ℕ) (bad : Fault) → decode_payload kind channel payload ≡ Err bad → IsWhole bad
unfolding decode_payload
whole_fails kinds.ProtocolHeader channel (a ∷ b ∷ c ∷ []) bad h = absurd cc
whole_fails kinds.ProtocolHeader channel (a ∷ b ∷ c ∷ d ∷ more) bad h = let same : trailing_bytes ≡ bad = cc in rw (← same) tt
whole_fails kinds.ProtocolHeader channel payload bad h = let same : short_payload ≡ bad = cc in rw (← same) tt
whole_fails kinds.Method channel payload bad h =
    filling_fails (length payload) (judge_payload payload) bad (payloads_inside payload) (map_fails (λ m. Meth channel m) (all_of judge_payload payload) bad h)
whole_fails kinds.Header channel payload bad h =
    filling_fails (length payload) (judge_content_header payload) bad (content_headers_inside payload)
    (map_fails (λ header. Head channel header) (all_of judge_content_header payload) bad h)
whole_fails kind channel payload bad h = absurd cc

-- An error that says why a whole payload is refused is one of the errors of a payload.
pub error_whole : {A : Type 0} (error : ParserError) (read : Result A Fault)
    → ((bad : Fault) → read ≡ Err bad → IsWhole bad) → RefusesWhole error read → IsPayloadError error
error_whole errors.Incomplete read fails h = h
error_whole errors.UnknownFrameType read fails h = fails unknown_frame_type h
error_whole errors.BadProtocolHeader read fails h = fails bad_protocol_header h
error_whole errors.BadFrameEnd read fails h = fails bad_frame_end h
error_whole error read fails h = tt
