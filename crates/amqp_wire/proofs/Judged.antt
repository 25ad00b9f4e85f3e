-- Whole payloads that are decoded without memory.
use Rattle.std.proofs.Common.{◌≡◌, ◌<◌, ℕ, Bool, true, false, List, [], length, take, Result, Ok, Err, refl, sym, ap, subst, ◌∙◌, arith, IsTrue, ◌∷◌}
use Rattle.std.specs.Str.{bytes_eq}
use Rattle.std.specs.Prelude.{eqb, ◌↔◌, ◌^◌}
use Rattle.std.proofs.lemmas.Bool.{ne_eqb}
use Rattle.std.proofs.lemmas.List.{take_all}
use Rattle.std.proofs.lemmas.Slice.Eq.{bytes_eq-Decides}
use Rattle.amqp_types.specs.Levels.{Level, tidy}
use Rattle.amqp_types.specs.Judging.{Judge, IsBytes}
use Rattle.amqp_types.specs.Answers.{Refuses}
use Rattle.amqp_types.specs.FormLaws.{IsLawful}
use Rattle.amqp_types.specs.Tidiness.{IsDecidedBy, is_tidy_payload, is_tidy_content_header}
use Rattle.amqp_types.specs.ValueJudging.{inside_error, read_map}
use Rattle.amqp_types.specs.Methods.{judge_payload, payload_bytes}
use Rattle.amqp_types.specs.MethodSpelling.{SpellsPayload}
use Rattle.amqp_types.specs.ContentHeaders.{judge_content_header, SpellsContentHeader, content_header_bytes}
use Rattle.amqp_types.specs.declared.errors.ParserError.{ParserError}
use Rattle.amqp_types.specs.declared.errors.ParserError.TheVariants as errors
use Rattle.amqp_laws.proofs.MethodLaws.{payloads_lawful}
use Rattle.amqp_laws.proofs.Tidiness.{payloads_decided}
use Rattle.amqp_laws.proofs.PayloadFaults.{payloads_inside}
use Rattle.amqp_laws.proofs.HeaderLaws.{content_headers_lawful}
use Rattle.amqp_laws.proofs.PropertyFaults.{content_headers_inside}
use Rattle.amqp_laws.proofs.PropertyTidiness.{content_headers_decided}
use Rattle.amqp_types.specs.PayloadFaults.{FailsInside}
use Rattle.amqp_canonical.specs.declared.slots.Judgement.{Judgement}
use Rattle.amqp_canonical.specs.Judgements.{MayRefuse}
use Rattle.amqp_canonical.specs.SlotJudgements.{TakesTidily, JudgesPayload, JudgesContentHeader}
use Rattle.amqp_wire.specs.declared.frame_type.AMQPFrameType.{AMQPFrameType}
use Rattle.amqp_wire.specs.declared.frame_type.AMQPFrameType.TheVariants as kinds
use Rattle.amqp_wire.specs.declared.judging.FrameJudgement.{FrameJudgement}
use Rattle.amqp_wire.specs.declared.version.ProtocolVersion.{ProtocolVersion}
use Rattle.amqp_wire.specs.Frames.{Frame, Proto, Meth, Head, Body, beat_on, raw_as}
use Rattle.amqp_wire.specs.Spelling.{Spells, bytes_as}
use Rattle.amqp_wire.proofs.Encoded.{payload_of-beat}
use Rattle.amqp_wire.proofs.Tidied.{frame_decided}
use Rattle.amqp_wire.specs.Judgements.{IsAll, JudgesAll, IsJudged, JudgesFrame}
use Rattle.amqp_wire.specs.Verdicts.{all_of, decode_payload, is_tidy_as}
use Rattle.amqp_wire.proofs.Payloads as payloads
use Rattle.amqp_wire.proofs.Within.{filling_fails, error_whole}

-- two tests that hold of the same
same_test : (a b : Bool) → (a ≡ true → b ≡ true) → (b ≡ true → a ≡ true) → a ≡ b
same_test true b f g = sym (f refl)
same_test false true f g = g refl
same_test false false f g = refl

inside_fault : (error : ParserError) → MayRefuse error → MayRefuse (inside_error error)
inside_fault errors.Incomplete h = λ e. cc
inside_fault error h = h

-- ---- what a whole payload is, where decoding it is lawful

module _ {A : Type 0} (judge : Judge A) (Spells : Level → List ℕ → A → Type 0) (canonical : A → List ℕ) (is_tidy : List ℕ → Bool)
    (lawful : IsLawful judge Spells canonical) (decides : IsDecidedBy judge (Spells tidy) is_tidy) (inside : FailsInside judge) where
  -- all of the payload was used
  is_all : (payload : List ℕ) (found : Judgement) → IsBytes payload → found.used ≡ length payload
      → TakesTidily (λ bytes x. bytes ≡ canonical x) (Spells tidy) found payload (judge payload)
      → IsAll judge canonical is_tidy payload (record { canonical = found.canonical; tidy = found.tidy })
  is_all payload found fits all h =
      let is : all_of judge payload ≡ Ok h.thing = payloads.fills_all (length payload) found.used (judge payload) h.thing h.is all in
      let used : take found.used payload ≡ payload = ap (λ k. take k payload) all ∙ take_all (length payload) payload (omega arith) in
      let written = bytes_eq-Decides payload (canonical h.thing) in
      record {
        thing = h.thing;
        is = is;
        canonical_is =
            same_test found.canonical (bytes_eq payload (canonical h.thing))
            (λ e. written.1 (sym used ∙ h.canonical.0 e)) (λ e. h.canonical.1 (used ∙ written.0 e));
        tidy_is = same_test found.tidy (is_tidy payload)
            (λ e.
            payloads.spelled_at judge Spells canonical is_tidy lawful decides tidy payload h.thing
            (rw (← used) (h.tidy.0 e)))
            (λ e.
            h.tidy.1 (subst (λ bytes. Spells tidy bytes h.thing) (sym used)
            (payloads.whole_spells judge Spells canonical is_tidy lawful decides tidy payload h.thing fits is e)));
      }

  -- a refusal of what is decoded
  is_refused : (payload : List ℕ) (error : ParserError) → MayRefuse error × Refuses error (judge payload)
      → JudgesAll judge canonical is_tidy payload (Err (inside_error error))
  is_refused payload error h =
      let refused = payloads.refused_all error (length payload) (judge payload) h.1 in (
        (
          error_whole (inside_error error) (all_of judge payload) (λ bad e. filling_fails (length payload) (judge payload) bad (inside payload) e) refused,
          inside_fault error h.0,
        ),
        refused,
      )

  -- bytes are left
  is_trailing : (payload : List ℕ) (found : Judgement) → found.used < length payload
      → TakesTidily (λ bytes x. bytes ≡ canonical x) (Spells tidy) found payload (judge payload)
      → JudgesAll judge canonical is_tidy payload (Err errors.TrailingBytes)
  is_trailing payload found less h = ((tt, λ e. cc), payloads.fills_less (length payload) found.used (judge payload) h.thing h.is less)

-- what decoding the whole payload of a method, or of a content header, returns
abbrev pub JudgesMethod : List ℕ → Result FrameJudgement ParserError → Type 0
JudgesMethod payload = JudgesAll judge_payload payload_bytes is_tidy_payload payload

abbrev pub JudgesHeader : List ℕ → Result FrameJudgement ParserError → Type 0
JudgesHeader payload = JudgesAll judge_content_header content_header_bytes is_tidy_content_header payload

-- The payload of a method that was decoded to its end, with no memory, is decoded whole.
pub method_all : (payload : List ℕ) (found : Judgement) → IsBytes payload → found.used ≡ length payload → JudgesPayload payload (Ok found)
    → JudgesMethod payload (Ok (record { canonical = found.canonical; tidy = found.tidy }))
method_all = is_all judge_payload SpellsPayload payload_bytes is_tidy_payload payloads_lawful payloads_decided payloads_inside

-- The fault of decoding a method is that of its whole payload, in which an incomplete one is short.
pub method_refused : (payload : List ℕ) (error : ParserError) → JudgesPayload payload (Err error)
    → JudgesMethod payload (Err (inside_error error))
method_refused = is_refused judge_payload SpellsPayload payload_bytes is_tidy_payload payloads_lawful payloads_decided payloads_inside

pub method_trailing : (payload : List ℕ) (found : Judgement) → found.used < length payload → JudgesPayload payload (Ok found)
    → JudgesMethod payload (Err errors.TrailingBytes)
method_trailing = is_trailing judge_payload SpellsPayload payload_bytes is_tidy_payload payloads_lawful payloads_decided payloads_inside

-- A content header that was decoded to the end of its payload, with no memory, is decoded whole.
pub header_all : (payload : List ℕ) (found : Judgement) → IsBytes payload → found.used ≡ length payload → JudgesContentHeader payload (Ok found)
    → JudgesHeader payload (Ok (record { canonical = found.canonical; tidy = found.tidy }))
header_all =
    is_all judge_content_header SpellsContentHeader content_header_bytes is_tidy_content_header
    content_headers_lawful content_headers_decided content_headers_inside

-- The fault of decoding a content header is that of its whole payload, in which an incomplete one is short.
pub header_refused : (payload : List ℕ) (error : ParserError) → JudgesContentHeader payload (Err error)
    → JudgesHeader payload (Err (inside_error error))
header_refused =
    is_refused judge_content_header SpellsContentHeader content_header_bytes
    is_tidy_content_header content_headers_lawful content_headers_decided content_headers_inside

-- ---- frames

-- What is found of the payload of a method is found of its frame.
pub method_frame : (channel : ℕ) (payload : List ℕ) (r : Result FrameJudgement ParserError)
    → JudgesMethod payload r → JudgesFrame (raw_as kinds.Method channel payload) r
unfolding decode_payload is_tidy_as
method_frame channel payload (Ok found) h = record {
  frame = Meth channel h.thing;
  is = ap (read_map (λ m. Meth channel m)) h.is;
  canonical = rw h.is h.canonical_is;
  tidy = h.tidy_is;
}
method_frame channel payload (Err error) h = (h.0, payloads.refused_map error (λ m. Meth channel m) (all_of judge_payload payload) h.1)

-- What is found of the payload of a content header is found of its frame.
pub header_frame : (channel : ℕ) (payload : List ℕ) (r : Result FrameJudgement ParserError)
    → JudgesHeader payload r → JudgesFrame (raw_as kinds.Header channel payload) r
unfolding decode_payload is_tidy_as
header_frame channel payload (Ok found) h = record {
  frame = Head channel h.thing;
  is = ap (read_map (λ header. Head channel header)) h.is;
  canonical = rw h.is h.canonical_is;
  tidy = h.tidy_is;
}
header_frame channel payload (Err error) h = (h.0, payloads.refused_map error (λ header. Head channel header) (all_of judge_content_header payload) h.1)

same_bytes : (bytes : List ℕ) → true ≡ bytes_eq bytes bytes
same_bytes bytes = sym ((bytes_eq-Decides bytes bytes).1 refl)

-- A body frame is canonical and tidy.
pub body_frame : (channel : ℕ) (payload : List ℕ) → JudgesFrame (raw_as kinds.Body channel payload) (Ok (record { canonical = true; tidy = true }))
unfolding decode_payload is_tidy_as
body_frame channel payload = record { frame = Body channel payload; is = refl; canonical = same_bytes payload; tidy = refl }

empty_decided : (payload : List ℕ) → bytes_eq payload [] ≡ eqb (length payload) 0
empty_decided [] = refl
empty_decided (byte ∷ payload) = sym (ne_eqb (length (byte ∷ payload)) 0 (λ e. absurd (omega (arith, e))))

-- A heartbeat is canonical and tidy exactly where it has no payload.
pub beat_frame : (channel : ℕ) (payload : List ℕ) (empty : Bool) → empty ≡ eqb (length payload) 0
    → JudgesFrame (raw_as kinds.Heartbeat channel payload) (Ok (record { canonical = empty; tidy = empty }))
unfolding decode_payload is_tidy_as
beat_frame channel payload empty e = record {
  frame = beat_on channel;
  is = refl;
  canonical = e ∙ sym (empty_decided payload) ∙ ap (bytes_eq payload) (sym (payload_of-beat channel));
  tidy = e;
}

-- A protocol header whose version is decoded is canonical and tidy.
pub proto_frame : (channel : ℕ) (payload : List ℕ) (v : ProtocolVersion)
    → decode_payload kinds.ProtocolHeader channel payload ≡ Ok (Proto v.major v.minor v.revision)
    → JudgesFrame (raw_as kinds.ProtocolHeader channel payload) (Ok (record { canonical = true; tidy = true }))
unfolding decode_payload is_tidy_as
proto_frame channel (a ∷ b ∷ c ∷ []) v is = record { frame = Proto a b c; is = refl; canonical = same_bytes (a ∷ b ∷ c ∷ []); tidy = refl }
proto_frame channel payload v is = absurd cc

-- the same of a type that is this one
pub judged_as : (kind other : AMQPFrameType) (channel : ℕ) (payload : List ℕ) (r : Result FrameJudgement ParserError)
    → kind ≡ other → JudgesFrame (raw_as other channel payload) r → JudgesFrame (raw_as kind channel payload) r
judged_as kind other channel payload r is h = let P : AMQPFrameType → Type 0 = λ k. JudgesFrame (raw_as k channel payload) r in subst P (sym is) h

-- a test says exactly what is tidy, as it was decoded
pub tidy_decided : (kind : AMQPFrameType) (channel : ℕ) (payload : List ℕ) (frame : Frame) (found : FrameJudgement) → IsBytes payload
    → channel < 2 ^ 16 → length payload < 2 ^ 32 → decode_payload kind channel payload ≡ Ok frame → IsJudged (raw_as kind channel payload) found
    → IsTrue found.tidy ↔ Spells tidy (bytes_as kind channel payload) frame
tidy_decided kind channel payload frame found fits on few is h =
    let decides = frame_decided kind channel payload frame fits on few is in
    (λ t. decides.0 (sym h.tidy ∙ t), λ s. h.tidy ∙ decides.1 s)
