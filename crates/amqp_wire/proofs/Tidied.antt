-- The test of whole frames says what is tidy.
use Rattle.std.proofs.Common.{◌≡◌, ◌≢◌, ◌↔◌, ℕ, ◌^◌, ◌<◌, true, List, [], ◌∷◌, length, None, Ok, refl, sym, ap, subst, ◌∙◌}
use Rattle.amqp_types.specs.Levels.{tidy}
use Rattle.amqp_types.specs.Judging.{IsBytes}
use Rattle.amqp_wire.specs.declared.frame_type.AMQPFrameType.{AMQPFrameType}
use Rattle.amqp_wire.specs.declared.frame_type.AMQPFrameType.TheVariants as kinds
use Rattle.amqp_wire.specs.Frames.{Frame, Proto, raw_as}
use Rattle.amqp_wire.specs.Spelling.{framed, proto, byte_of, bytes_as, IsFramed, Spells}
use Rattle.amqp_wire.specs.Verdicts.{decode_payload, is_tidy_as, is_at, judge_scanned, judge_frame}
use Rattle.amqp_wire.proofs.Encoded.{spells_as, judge_decoded-is}
use Rattle.amqp_wire.proofs.Spelled.{scan-framed, verdict-spelled}

-- a frame is encoded tidily by its bytes exactly where the test holds
framed_decided : (kind : AMQPFrameType) (channel : ℕ) (payload : List ℕ) (frame : Frame) → kind ≢ kinds.ProtocolHeader
    → IsBytes payload → channel < 2 ^ 16 → length payload < 2 ^ 32 → decode_payload kind channel payload ≡ Ok frame
    → (is_at tidy (raw_as kind channel payload) ≡ true) ↔ Spells tidy (framed (byte_of kind) channel payload) frame
unfolding judge_frame
framed_decided kind channel payload frame other fits on few is =
    let bytes = framed (byte_of kind) channel payload in
    let is_framed : IsFramed bytes (byte_of kind) channel payload = record { channel_fits = on; length_fits = few; bytes_are = refl } in (
      λ at. spells_as tidy bytes kind channel payload frame fits is_framed is at other,
      λ s. (judge_decoded-is (is_at tidy (raw_as kind channel payload)) (decode_payload kind channel payload) (length bytes) frame (length bytes)
          (ap (judge_scanned tidy) (sym (scan-framed kind other None bytes channel payload is_framed tt)) ∙ verdict-spelled tidy None bytes frame s tt)).0,
    )

proto_decided : (channel : ℕ) (payload : List ℕ) (frame : Frame) → decode_payload kinds.ProtocolHeader channel payload ≡ Ok frame
    → (is_at tidy (raw_as kinds.ProtocolHeader channel payload) ≡ true) ↔ Spells tidy (bytes_as kinds.ProtocolHeader channel payload) frame
unfolding decode_payload is_tidy_as
proto_decided channel (a ∷ b ∷ c ∷ []) frame is =
    let same : Proto a b c ≡ frame = cc in
    (λ _. subst (Spells tidy (proto a b c)) same refl, λ _. refl)
proto_decided channel payload frame is = absurd cc

-- The test of a whole frame that was decoded decides whether its encoding is tidy.
pub frame_decided : (kind : AMQPFrameType) (channel : ℕ) (payload : List ℕ) (frame : Frame)
    → IsBytes payload → channel < 2 ^ 16 → length payload < 2 ^ 32 → decode_payload kind channel payload ≡ Ok frame
    → (is_at tidy (raw_as kind channel payload) ≡ true) ↔ Spells tidy (bytes_as kind channel payload) frame
frame_decided kinds.ProtocolHeader channel payload frame fits on few is = proto_decided channel payload frame is
frame_decided kind channel payload frame fits on few is = framed_decided kind channel payload frame (λ e. absurd cc) fits on few is
