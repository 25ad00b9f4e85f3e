-- A borrowed frame, its canonical bytes and its canonical payload.
use Rattle.amqp_lines.proofs
use proofs.Names.{subst, ◌≡◌, ◌≢◌, ℕ, ◌-◌, true, List, [], ◌∷◌, ◌++◌, length, take, drop, Result, Ok, Err, refl, sym, ap, ◌∙◌, inl, inr, IfErr, cases_eq}
use proofs.Names.{eq-eqb, ne_eqb, take_at, bytes_eq-Decides, plain, IsBytes, payloads_lawful, content_headers_lawful, AMQPFrameType, FrameOutline, Frame, Proto}
use proofs.Names.{Meth, Head, Body, Raw, canon, payload_of, decode_raw, decode_payload, StreamError, cause_of, line, IsPayload, IsIn, HasNoLine, PutsBoth}
use proofs.Names.{PutsLine, lengths}
use proofs.Names.kinds
use proofs.Names.outlines
use Rattle.std.specs.Prelude.{OnOk}
use Rattle.amqp_types.specs.Answers.{RefusesWhole}
use Rattle.amqp_types.specs.Methods.{judge_payload}
use Rattle.amqp_types.specs.ContentHeaders.{judge_content_header}
use Rattle.amqp_types.specs.declared.errors.ParserError.{ParserError}
use Rattle.amqp_wire.specs.declared.judging.FrameJudgement.{FrameJudgement}
use Rattle.amqp_wire.specs.Frames.{beat_on}
use Rattle.amqp_wire.specs.Outlines.{outline_of}
use Rattle.amqp_wire.specs.Judgements.{IsJudged}
use Rattle.amqp_wire.specs.Verdicts.{IsPayloadError, all_of}
use Rattle.amqp_wire.proofs.Encoded.{read_as}
use Rattle.amqp_wire.proofs.Typed.{method_spells, header_spells}
use Rattle.amqp_stream.specs.Writing.{payload_fault}
use Rattle.amqp_stream.proofs.Writes.{refusing, is_none, is_faulty}
use Rattle.amqp_lines.specs.LineTexts.{PutsCanonical}
use Rattle.amqp_types.specs.declared.errors.ParserError.TheVariants as parses
use Rattle.amqp_stream.specs.declared.errors.StreamError.TheVariants as errors

-- ---- the payload of canonical bytes

without_end : (payload : List ℕ) → take (length (payload ++ 206 ∷ []) - 1) (payload ++ 206 ∷ []) ≡ payload
without_end payload = take_at payload _ _ (omega lengths)

-- What stands between the seven bytes in front and the end byte of a framed frame's canonical bytes is its canonical payload.
pub payload_framed : {outline : FrameOutline} {bytes rest inside : List ℕ} → (outline ≡ outlines.ProtocolHeader → ⊥) → rest ≡ drop 7 bytes
    → inside ≡ take (length rest - 1) rest → (frame : Frame) → outline ≡ outline_of frame → bytes ≡ canon frame → inside ≡ payload_of frame
unfolding canon
payload_framed other is last (Proto a b c) h e = absurd (other h)
payload_framed other is last frame h e = rw (last, is, e) (without_end _)

-- The last three of the eight bytes of a protocol header are its canonical payload.
pub payload_version : {outline : FrameOutline} {bytes inside : List ℕ} → outline ≡ outlines.ProtocolHeader
    → inside ≡ drop 5 bytes → (frame : Frame) → outline ≡ outline_of frame → bytes ≡ canon frame → inside ≡ payload_of frame
unfolding canon
payload_version is last (Proto a b c) h e = last ∙ ap (drop 5) e
payload_version is last frame h e = absurd (let x = sym is ∙ h in cc)

-- ---- the canonical payload encodes its frame strictly

beat_payload : (channel : ℕ) → IsPayload (payload_of (beat_on channel)) (beat_on channel)
beat_payload channel = elim (cases_eq channel 0) [
  | inl none ↦ rw (eq-eqb channel 0 none) refl
  | inr some ↦ rw (ne_eqb channel 0 some) refl
]

payload_as : (kind : AMQPFrameType) (channel : ℕ) (payload : List ℕ) (frame : Frame)
    → IsBytes payload → decode_payload kind channel payload ≡ Ok frame → IsPayload (payload_of frame) frame
unfolding decode_payload
payload_as kinds.ProtocolHeader channel (a ∷ b ∷ c ∷ []) frame fits h = let is : frame ≡ Proto a b c = cc in rw is refl
payload_as kinds.ProtocolHeader channel payload frame fits h = absurd cc
payload_as kinds.Method channel payload frame fits h =
    let read = read_as (λ x. Meth channel x) (all_of judge_payload payload) frame h in
    rw (← read.2) (payloads_lawful.canonical_is_strict payload read.0 (method_spells plain payload read.0 fits read.1 refl))
payload_as kinds.Header channel payload frame fits h =
    let read = read_as (λ x. Head channel x) (all_of judge_content_header payload) frame h in
    rw (← read.2) (content_headers_lawful.canonical_is_strict payload read.0 (header_spells plain payload read.0 fits read.1 refl))
payload_as kinds.Body channel payload frame fits h = let is : frame ≡ Body channel payload = cc in rw is refl
payload_as kinds.Heartbeat channel payload frame fits h = let is : frame ≡ beat_on channel = cc in rw is (beat_payload channel)

-- a frame that was read, by its outline and its canonical payload
pub canonical_in : (raw : Raw) {outline : FrameOutline} {payload : List ℕ} {frame : Frame} → IsBytes raw.payload
    → decode_raw raw ≡ Ok frame → outline ≡ outline_of frame → payload ≡ payload_of frame → IsIn outline payload frame
canonical_in raw {frame = frame} fits is h e =
    record { outline_is = h; is_payload = rw e (payload_as raw.kind raw.channel raw.payload frame fits is) }

-- ---- refusals

-- A borrowed frame whose payload is refused has no line, for that fault.
pub unrendered : (raw : Raw) (error : ParserError) → IsPayloadError error → refusing error ≢ Err parses.NoMemory
    → RefusesWhole error (decode_raw raw) → HasNoLine raw (cause_of (payload_fault error))
unrendered raw error inside some h =
    let none = is_none raw error inside some h in
    subst (λ cause. HasNoLine raw cause) none.tells (is_faulty plain raw none.bad none.is_whole none.other)

-- ---- what is put

-- Where the canonical bytes of a borrowed frame are put, and the line of the frame that they encode strictly, both are those of this frame.
pub both_put : (raw : Raw) (outline : FrameOutline) (payload canonical text : List ℕ) (done : Unit {0}) (r : Result (Unit {0}) StreamError)
    → IsBytes raw.payload → PutsCanonical raw canonical (Ok done) → ((frame : Frame) → decode_raw raw ≡ Ok frame → outline ≡ outline_of frame)
    → ((frame : Frame) → outline ≡ outline_of frame → canonical ≡ canon frame → payload ≡ payload_of frame)
    → OnOk r ((frame : Frame) → IsIn outline payload frame → text ≡ line frame) → IfErr r (λ error. error ≡ errors.NoMemory) → PutsBoth raw canonical text r
both_put raw outline payload canonical text done (Ok u) fits read outlined inside lined memory =
    let is = outlined read.0 read.1 in
    (read.0, read.1, read.2, lined read.0 (canonical_in raw fits read.1 is (inside read.0 is read.2)))
both_put raw outline payload canonical text done (Err error) fits read outlined inside lined memory = rw memory tt

-- Where a borrowed frame is canonical, the line of its outline and its payload is the line of the frame.
pub line_put : (raw : Raw) {found : FrameJudgement} (outline : FrameOutline) (text : List ℕ) (r : Result (Unit {0}) StreamError)
    → IsBytes raw.payload → IsJudged raw found → found.canonical ≡ true → ((frame : Frame) → decode_raw raw ≡ Ok frame → outline ≡ outline_of frame)
    → OnOk r ((frame : Frame) → IsIn outline raw.payload frame → text ≡ line frame) → IfErr r (λ error. error ≡ errors.NoMemory) → PutsLine raw text r
line_put raw outline text (Ok u) fits h canonical outlined lined memory =
    let same : raw.payload ≡ payload_of h.frame =
    (bytes_eq-Decides raw.payload _).0 (cc (h.is, h.canonical, canonical)) in
    (h.frame, h.is, lined h.frame (canonical_in raw fits h.is (outlined h.frame h.is) same))
line_put raw outline text (Err error) fits judged canonical outlined lined memory = rw memory tt
