-- What borrowed frames stand for.
use Rattle.std.specs.Prelude.{◌≡◌, ◌≢◌, ℕ, List, [], ◌∷◌, Result, Ok, Err}
use Rattle.amqp_types.specs.Judging.{Fault}
use Rattle.amqp_types.specs.Answers.{RefusesWhole}
use Rattle.amqp_types.specs.declared.errors.ParserError.{ParserError}
use Rattle.amqp_types.specs.declared.errors.ParserError.TheVariants as errors
use Rattle.amqp_wire.specs.declared.frame_type.AMQPFrameType.TheVariants as kinds
use Rattle.amqp_wire.specs.declared.version.ProtocolVersion.{ProtocolVersion}
use Rattle.amqp_wire.specs.Frames.{Frame, Raw, raw_as}
use Rattle.amqp_wire.specs.Verdicts.{decode_raw}
use Rattle.amqp_canonical.specs.Payloads.{header_payload, method_payload}
use Rattle.amqp_lent.specs.declared.frame.LentFrame.{LentFrame}
use Rattle.amqp_lent.specs.declared.frame.LentFrame.TheVariants as frames

-- type, channel and payload; the channel is 0 where none is held
abbrev pub raw_of : LentFrame → Raw
raw_of (frames.ProtocolHeader version) =
    raw_as kinds.ProtocolHeader 0 (version.major ∷ version.minor ∷ version.revision ∷ [])
raw_of (frames.Method channel class id slots) =
    raw_as kinds.Method channel (method_payload class id slots.now)
raw_of (frames.Header channel class size properties) =
    raw_as kinds.Header channel (header_payload class size properties.now)
raw_of (frames.Body channel content) = raw_as kinds.Body channel content.now
raw_of frames.Heartbeat = raw_as kinds.Heartbeat 0 []
raw_of (frames.InvalidHeartbeat channel) = raw_as kinds.Heartbeat channel []

-- the payload of a borrowed frame
abbrev pub payload_of : LentFrame → List ℕ
payload_of lent = (raw_of lent).payload

-- a borrowed frame stands for the frame that its payload is
abbrev pub StandsFor : LentFrame → Frame → Type 0
StandsFor lent frame = decode_raw (raw_of lent) ≡ Ok frame

-- it stands for a frame
abbrev pub IsFrame : LentFrame → Type 0
IsFrame lent = (frame : Frame) × StandsFor lent frame

-- What stands for the frame that was read is returned, or why none was read. Memory never runs out.
abbrev pub Lends : Result LentFrame ParserError → Result Frame Fault → Type 0
-- a frame was read, and the borrowed frame stands for it
Lends (Ok lent) read = (frame : Frame) × (read ≡ Ok frame) × StandsFor lent frame
Lends (Err error) read = (error ≢ errors.NoMemory) × RefusesWhole error read

-- A borrowed frame as equality sees it: the numbers that it holds, and its borrowed bytes,
-- wherever they lie.
pub data LentParts : Type 0 where
  protocol_header : (version : ProtocolVersion) → LentParts
  method : (channel class id : ℕ) (slots : List ℕ) → LentParts
  content_header : (channel class size : ℕ) (properties : List ℕ) → LentParts
  body : (channel : ℕ) (content : List ℕ) → LentParts
  heartbeat : LentParts
  invalid_heartbeat : (channel : ℕ) → LentParts

-- the parts of a borrowed frame
abbrev pub parts_of : LentFrame → LentParts
parts_of (frames.ProtocolHeader version) = protocol_header version
parts_of (frames.Method channel class id slots) = method channel class id slots.now
parts_of (frames.Header channel class size properties) =
    content_header channel class size properties.now
parts_of (frames.Body channel content) = body channel content.now
parts_of frames.Heartbeat = heartbeat
parts_of (frames.InvalidHeartbeat channel) = invalid_heartbeat channel
