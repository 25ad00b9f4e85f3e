-- Canonical bytes of frames, put where a payload stands or in place of one.
use Rattle.std.proofs.Common.{◌≡◌, ◌≤◌, ℕ, ◌+◌, true, List, [], ◌∷◌, length, Ok, refl, sym, ap, subst, ◌∙◌, arith, inl, inr}
use Rattle.std.proofs.lemmas.Bool.{cases_eq, eq-eqb, ne_eqb}
use Rattle.std.proofs.lemmas.Slice.Eq.{bytes_eq-Decides}
use Rattle.amqp_types.specs.Levels.{Level, plain}
use Rattle.amqp_types.specs.Judging.{Judged, Judge, IsExact, took, IsBytes}
use Rattle.amqp_types.specs.MethodSpelling.{SpellsPayload}
use Rattle.amqp_types.specs.ValueJudging.{read_map}
use Rattle.amqp_types.specs.Writing.{Puts}
use Rattle.amqp_types.specs.Methods.{judge_payload, payload_bytes}
use Rattle.amqp_types.specs.ContentHeaders.{SpellsContentHeader, judge_content_header, content_header_bytes}
use Rattle.amqp_laws.proofs.MethodLaws.{payloads_lawful}
use Rattle.amqp_laws.proofs.HeaderLaws.{content_headers_lawful}
use Rattle.amqp_types.proofs.Puts.{puts_then, puts-length}
use Rattle.amqp_canonical.specs.Writes.{IsRead, canonical_of}
use Rattle.amqp_canonical.specs.WritingLaws.{WritesNoLonger}
use Rattle.amqp_canonical.proofs.NoLonger.{payloads_no_longer, content_headers_no_longer}
use Rattle.amqp_wire.specs.declared.frame_type.AMQPFrameType.{AMQPFrameType}
use Rattle.amqp_wire.specs.declared.frame_type.AMQPFrameType.TheVariants as kinds
use Rattle.amqp_wire.specs.declared.judging.FrameJudgement.{FrameJudgement}
use Rattle.amqp_wire.specs.Frames.{Frame, Proto, Meth, Head, Body, Raw, beat_on, frame_length, length_around}
use Rattle.amqp_wire.specs.Spelling.{framed}
use Rattle.amqp_wire.specs.Canonical.{canon, payload_of}
use Rattle.amqp_wire.specs.Judgements.{IsJudged}
use Rattle.amqp_wire.specs.Rewrites.{Rewrites}
use Rattle.amqp_wire.specs.Verdicts.{all_of, is_written_for, decode_raw, decode_payload}
use Rattle.amqp_wire.proofs.Encoded.{read_as}
use Rattle.amqp_wire.proofs.Payloads.{filled_took}
use Rattle.amqp_types.specs.Tidiness.{used_by}

-- ---- what a payload was decoded to be

-- no more is used than there is
taken_within : {A : Type 0} (judge : Judge A) (j : Judged A) (payload : List ℕ)
    → ((x : A) (n : ℕ) → j ≡ took x n → n ≤ length payload) → IsRead j → used_by j ≤ length payload
taken_within judge (took x n) payload within read = within x n refl
taken_within judge j payload within read = absurd read

used_within : {A : Type 0} (judge : Judge A) (Spells : Level → List ℕ → A → Type 0) (payload : List ℕ)
    → IsBytes payload → IsExact judge (Spells plain) → IsRead (judge payload) → used_by (judge payload) ≤ length payload
used_within judge Spells payload fits exact read = taken_within judge (judge payload) payload (λ x n is. (exact.spelled payload x n fits is).1) read

-- A payload that is decoded, and its canonical bytes: the frame has them, and they are no longer than the payload.
pub record Payload {A : Type 0} (type channel : ℕ) (bytes : A → List ℕ) (judged : Judged A) (payload : List ℕ) (frame : Frame) : Type 0 where
  pub read : IsRead judged
  pub shorter : length (canonical_of bytes judged) ≤ length payload
  pub framed_is : framed type channel (canonical_of bytes judged) ≡ canon frame
  pub written_is : payload_of frame ≡ canonical_of bytes judged

payload_of_all : {A : Type 0} (type channel : ℕ) (make : A → Frame) (bytes : A → List ℕ) (judge : Judge A) (payload : List ℕ) (frame : Frame)
    → WritesNoLonger judge bytes → ((x : A) → (framed type channel (bytes x) ≡ canon (make x)) × (payload_of (make x) ≡ bytes x))
    → IsBytes payload → read_map make (all_of judge payload) ≡ Ok frame → Payload type channel bytes (judge payload) payload frame
payload_of_all type channel make bytes judge payload frame no_longer made fits h =
    let one = read_as make (all_of judge payload) frame h in
    let is = filled_took (length payload) (judge payload) one.0 one.1 in
    let read : IsRead (judge payload) = subst IsRead (sym is) tt in
    let canonical_is = ap (canonical_of bytes) is in
    record {
      read = read;
      shorter = let used = ap used_by is in omega (arith, used, no_longer payload fits read);
      framed_is = ap (framed type channel) canonical_is ∙ (made one.0).0 ∙ ap canon one.2;
      written_is = ap payload_of (sym one.2) ∙ (made one.0).1 ∙ sym canonical_is;
    }

-- what is written is no longer than the payload
pub method_shorter : (payload : List ℕ) → IsBytes payload → IsRead (judge_payload payload)
    → length (canonical_of payload_bytes (judge_payload payload)) ≤ length payload
method_shorter payload fits read =
    omega (arith, payloads_no_longer payload fits read, used_within judge_payload SpellsPayload payload fits payloads_lawful.exact read)

-- The canonical payload of a content header is no longer than the one that it was decoded from.
pub header_shorter : (payload : List ℕ) → IsBytes payload → IsRead (judge_content_header payload)
    → length (canonical_of content_header_bytes (judge_content_header payload)) ≤ length payload
header_shorter payload fits read =
    omega
    (arith, content_headers_no_longer payload fits read, used_within judge_content_header SpellsContentHeader payload fits content_headers_lawful.exact read)

-- ---- the frame that was decoded, put

-- what is put is the canonical bytes of the frame
rewrites : {old new : List ℕ} {at end : ℕ} {bytes : List ℕ} (raw : Raw) (f : Frame) → decode_raw raw ≡ Ok f
    → bytes ≡ canon f → Puts old new at bytes end → Rewrites old new at (decode_raw raw) (Ok end)
rewrites {old = old} {new = new} {at = at} {end = end} raw f w is h = let P : List ℕ → Type 0 = λ bs. Puts old new at bs end in (f, w, subst P is h)

-- the frame is one of this type
whole_at : (raw : Raw) (kind : AMQPFrameType) (f : Frame) → raw.kind ≡ kind → decode_raw raw ≡ Ok f → decode_payload kind raw.channel raw.payload ≡ Ok f
whole_at raw kind f is w = ap (λ k. decode_payload k raw.channel raw.payload) (sym is) ∙ w

module _ {raw : Raw} {found : FrameJudgement} (h : IsJudged raw found) where
  -- The payload of a method that was decoded is decoded whole, to the method of its frame.
  pub method_judged : raw.kind ≡ kinds.Method → IsBytes raw.payload → Payload 1 raw.channel payload_bytes (judge_payload raw.payload) raw.payload h.frame
  unfolding decode_payload canon
  method_judged kind fits =
      payload_of_all 1 raw.channel (λ m. Meth raw.channel m) payload_bytes judge_payload raw.payload h.frame payloads_no_longer
      (λ m. (refl, refl)) fits (whole_at raw kinds.Method h.frame kind h.is)

  -- The payload of a content header that was decoded is decoded whole, to the header of its frame.
  pub header_judged : raw.kind ≡ kinds.Header → IsBytes raw.payload
      → Payload 2 raw.channel content_header_bytes (judge_content_header raw.payload) raw.payload h.frame
  unfolding decode_payload canon
  header_judged kind fits =
      payload_of_all 2 raw.channel (λ header. Head raw.channel header) content_header_bytes judge_content_header raw.payload h.frame
      content_headers_no_longer (λ header. (refl, refl)) fits (whole_at raw kinds.Header h.frame kind h.is)

  -- a payload that stands in its canonical bytes is put as it stands
  pub put_standing : {A : Type 0} {type : ℕ} {bytes : A → List ℕ} {judged : Judged A} {old new : List ℕ} {at end : ℕ}
      → Payload type raw.channel bytes judged raw.payload h.frame → found.canonical ≡ true
      → Puts old new at (framed type raw.channel raw.payload) end → Rewrites old new at (decode_raw raw) (Ok end)
  put_standing {type = type} q canonical p =
      let same = sym (ap (λ r. is_written_for r raw.payload) h.is) ∙ sym h.canonical ∙ canonical in
      rewrites raw h.frame h.is
      (ap (framed type raw.channel) ((bytes_eq-Decides raw.payload (payload_of h.frame)).0 same ∙ q.written_is) ∙ q.framed_is) p

  -- one that is written anew
  pub put_rewritten : {A : Type 0} {type : ℕ} {bytes : A → List ℕ} {judged : Judged A} {old new : List ℕ} {at end : ℕ}
      → Payload type raw.channel bytes judged raw.payload h.frame
      → Puts old new at (framed type raw.channel (canonical_of bytes judged)) end → Rewrites old new at (decode_raw raw) (Ok end)
  put_rewritten q p = rewrites raw h.frame h.is q.framed_is p

-- A body is rewritten by putting a frame with its payload as it stands.
pub body_put : {old new : List ℕ} {at end : ℕ} (raw : Raw) → raw.kind ≡ kinds.Body
    → Puts old new at (framed 3 raw.channel raw.payload) end → Rewrites old new at (decode_raw raw) (Ok end)
unfolding decode_payload canon
body_put raw kind p = (Body raw.channel raw.payload, rw kind refl, p)

-- The canonical bytes of a heartbeat are a frame with no payload.
pub canon_beat : (channel : ℕ) → framed 8 channel [] ≡ canon (beat_on channel)
unfolding canon
canon_beat channel = elim (cases_eq channel 0) [
  | inl zero ↦ rw (eq-eqb channel 0 zero) (ap (λ n. framed 8 n []) zero)
  | inr some ↦ rw (ne_eqb channel 0 some) refl
]

-- A heartbeat is rewritten by putting a frame of type 8 with no payload.
pub beat_put : {old new bytes : List ℕ} {at end : ℕ} (raw : Raw) → raw.kind ≡ kinds.Heartbeat
    → bytes ≡ framed 8 raw.channel [] → Puts old new at bytes end → Rewrites old new at (decode_raw raw) (Ok end)
unfolding decode_payload
beat_put raw kind is p = rewrites raw (beat_on raw.channel) (rw kind refl) (is ∙ canon_beat raw.channel) p

-- a frame has eight bytes around its payload at most, or eight in all
pub around_most : (kind : AMQPFrameType) (n : ℕ) → length_around kind n ≤ n + 8
around_most kinds.ProtocolHeader n = omega arith
around_most kind n = omega arith

-- ---- a protocol header

-- the payload has three bytes, which follow the mark in the canonical bytes
version_as : (channel : ℕ) (payload : List ℕ) (frame : Frame) → decode_payload kinds.ProtocolHeader channel payload ≡ Ok frame
    → (length payload ≡ 3) × (65 ∷ 77 ∷ 81 ∷ 80 ∷ 0 ∷ payload ≡ canon frame)
unfolding decode_payload canon
version_as channel (a ∷ b ∷ c ∷ []) frame is = let same : Proto a b c ≡ frame = cc in (refl, ap canon same)
version_as channel payload frame is = absurd cc

module _ {old mid : List ℕ} {at place : ℕ} {raw : Raw} {found : FrameJudgement} (h : IsJudged raw found)
    (kind : raw.kind ≡ kinds.ProtocolHeader) (room : at + frame_length raw ≤ length old) (first : Puts old mid at (65 ∷ 77 ∷ 81 ∷ 80 ∷ 0 ∷ []) place) where
  version_is : (length raw.payload ≡ 3) × (65 ∷ 77 ∷ 81 ∷ 80 ∷ 0 ∷ raw.payload ≡ canon h.frame)
  version_is = version_as raw.channel raw.payload h.frame (whole_at raw kinds.ProtocolHeader h.frame kind h.is)

  version_length : frame_length raw ≡ 8
  version_length = ap (λ k. length_around k (length raw.payload)) kind

  -- There is room for a version where the protocol name has been put.
  pub version_room : place + length raw.payload ≤ length mid
  version_room =
      let size = puts-length old mid at place (65 ∷ 77 ∷ 81 ∷ 80 ∷ 0 ∷ []) (omega (arith, room, version_length)) first in
      omega (arith, version_is.0, first.behind, size, room, version_length)

  module _ {new : List ℕ} {end : ℕ} (second : Puts mid new place raw.payload end) where
    -- A protocol header is rewritten by putting its version after the protocol name.
    pub version_put : Rewrites old new at (decode_raw raw) (Ok end)
    version_put =
        rewrites raw h.frame h.is version_is.1
        (puts_then old mid new at place end (65 ∷ 77 ∷ 81 ∷ 80 ∷ 0 ∷ []) raw.payload (omega (arith, room, version_length, version_is.0)) first second)

    -- A protocol header that is put is no longer than the one that was read.
    pub version_within : end ≤ at + frame_length raw
    version_within = omega (arith, version_is.0, first.behind, second.behind, version_length)
