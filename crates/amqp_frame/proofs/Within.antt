-- What a typed frame was decoded from: its size is no more, and which errors there are.
use Rattle.std.proofs.Common.{ℕ, ◌+◌, ◌^◌, ◌<◌, List, length, None, Result, Ok, Err, IfOk}
use Rattle.std.specs.Prelude.{IfErr}
use Rattle.amqp_types.specs.Levels.{plain}
use Rattle.amqp_types.specs.Judging.{IsBytes}
use Rattle.amqp_types.specs.Answers.{Answers, AnswersWhole}
use Rattle.amqp_types.specs.ValueLaws.{IsNoLonger as IsSizedWithin}
use Rattle.amqp_types.specs.declared.errors.ParserError.{ParserError}
use Rattle.amqp_wire.specs.declared.frame_type.AMQPFrameType.{AMQPFrameType}
use Rattle.amqp_wire.specs.Canonical.{canon, size_of}
use Rattle.amqp_wire.specs.Verdicts.{IsPayloadError, decode_payload, judge_frame}
use Rattle.amqp_wire.proofs.Within.{whole_sized, verdict_sized, whole_fails, error_whole}
use Rattle.amqp_frame.specs.declared.frame.AMQPFrame.{AMQPFrame}
use Rattle.amqp_frame.specs.Frames.{frame_of}

-- A frame decoded from a payload has a size, and canonical bytes, of at most the payload and eight bytes more.
pub payload_within : (kind : AMQPFrameType) (channel : ℕ) (payload : List ℕ) (r : Result AMQPFrame ParserError)
    → channel < 2 ^ 16 → IsBytes payload → length payload < 2 ^ 32 → AnswersWhole frame_of r (decode_payload kind channel payload)
    → IfOk r (λ frame. IsSizedWithin (size_of (frame_of frame)) (canon (frame_of frame)) (length payload + 8))
payload_within kind channel payload (Ok frame) on fits few h = whole_sized kind channel payload (frame_of frame) on fits few h
payload_within kind channel payload (Err error) on fits few h = tt

-- A frame decoded from the front of some bytes has a size, and canonical bytes, of at most the bytes it took.
pub frame_within : (bytes : List ℕ) (r : Result (ℕ × AMQPFrame) ParserError) → IsBytes bytes → Answers frame_of r (judge_frame plain None bytes)
    → IfOk r (λ found. IsSizedWithin (size_of (frame_of found.1)) (canon (frame_of found.1)) found.0)
frame_within bytes (Ok found) fits h = verdict_sized bytes (frame_of found.1) found.0 fits h
frame_within bytes (Err error) fits h = tt

-- An error of decoding a whole payload is one about a payload, not one of the header scan.
pub payload_error : (kind : AMQPFrameType) (channel : ℕ) (payload : List ℕ) (r : Result AMQPFrame ParserError)
    → AnswersWhole frame_of r (decode_payload kind channel payload) → IfErr r IsPayloadError
payload_error kind channel payload (Ok frame) h = tt
payload_error kind channel payload (Err error) h = error_whole error (decode_payload kind channel payload) (whole_fails kind channel payload) h
