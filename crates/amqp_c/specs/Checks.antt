-- What is reported of a whole payload: its ids and sizes, and whether it is canonical and
-- tidy; or its fault.
use Rattle.std.specs.Prelude.{◌≡◌, ℕ, ◌-◌, ◌^◌, nat_lt, Bool, false, if◌then◌else◌, List, length}
use Rattle.std.specs.Prelude.{Option, Some, None, Result, Ok, Err}
use Rattle.amqp_types.specs.Levels.{tidy, strict}
use Rattle.amqp_types.specs.Judging.{Fault, unknown_frame_type, too_large}
use Rattle.amqp_wire.specs.declared.frame_type.AMQPFrameType.{AMQPFrameType}
use Rattle.amqp_wire.specs.declared.outline.FrameOutline.{FrameOutline}
use Rattle.amqp_wire.specs.declared.outline.FrameOutline.TheVariants as outlines
use Rattle.amqp_wire.specs.Frames.{Frame, Raw}
use Rattle.amqp_wire.specs.HeaderScan.{type_of}
use Rattle.amqp_wire.specs.Outlines.{outline_of}
use Rattle.amqp_wire.specs.Verdicts.{is_at, decode_raw}
use Rattle.amqp_stream.specs.declared.errors.StreamError.{StreamError}
use Rattle.amqp_fields.specs.Meaning.{fields_of}
use Rattle.amqp_stream.specs.Errors.{stream_error_status}
use Rattle.amqp_c.specs.declared.check.PayloadSummary.{PayloadSummary}
use Rattle.amqp_c.specs.Scans.{fault_status}

-- the payload of a frame of this type; its length is written in four bytes (AMQP
-- 0-9-1, section 4.2.3)
abbrev pub raw_typed : Option AMQPFrameType → ℕ → List ℕ → Result Raw Fault
raw_typed None channel payload = Err unknown_frame_type
raw_typed (Some kind) channel payload =
    if nat_lt (2 ^ 32 - 1) (length payload) then Err too_large
    else Ok (record { kind = kind; channel = channel; payload = payload })

-- the same by the byte that names the type
abbrev pub raw_after : ℕ → ℕ → List ℕ → Result Raw Fault
raw_after byte channel payload = raw_typed (type_of byte) channel payload

-- no frame, by this status
abbrev pub no_summary : ℕ → PayloadSummary
no_summary status = record {
  body_size = 0;
  class_id = 0;
  method_id = 0;
  canonical = false;
  tidy = false;
  status = status;
  fields = 0;
}

-- a frame, by whether its payload is canonical and tidy, and by what stands in it, without the
-- number of its fields
abbrev pub standing : Bool → Bool → ℕ → ℕ → ℕ → PayloadSummary
standing canonical is_tidy class id size = record {
  body_size = size;
  class_id = class;
  method_id = id;
  canonical = canonical;
  tidy = is_tidy;
  status = 0;
  fields = 0;
}

-- the same by its outline
abbrev pub summed : Bool → Bool → FrameOutline → PayloadSummary
summed canonical is_tidy (outlines.Method channel class id) = standing canonical is_tidy class id 0
summed canonical is_tidy (outlines.Header channel class size) =
    standing canonical is_tidy class 0 size
summed canonical is_tidy outlines.ProtocolHeader = standing canonical is_tidy 0 0 0
summed canonical is_tidy (outlines.Body channel count) = standing canonical is_tidy 0 0 0
summed canonical is_tidy (outlines.Heartbeat channel) = standing canonical is_tidy 0 0 0

-- with so many fields
abbrev pub with_fields : PayloadSummary → ℕ → PayloadSummary
with_fields summary count = record summary { fields = count }

-- a whole payload, by what is read of it
abbrev pub summary_at : Raw → Result Frame Fault → PayloadSummary
summary_at raw (Ok frame) =
    with_fields (summed (is_at strict raw) (is_at tidy raw) (outline_of frame))
    (length (fields_of frame))
summary_at raw (Err bad) = no_summary (fault_status bad)

-- the summary of a payload after a type byte; the fault of a byte that names no type, or of a
-- payload of 2^32 bytes or more, gives its status alone
abbrev pub summary_of : Result Raw Fault → PayloadSummary
summary_of (Ok raw) = summary_at raw (decode_raw raw)
summary_of (Err bad) = no_summary (fault_status bad)

-- what a call returns
abbrev pub summary_or : Result PayloadSummary StreamError → PayloadSummary
summary_or (Ok summary) = summary
summary_or (Err error) = no_summary (stream_error_status error)

-- what a call returns, with its error as a status, is the summary of a whole payload
abbrev pub SumsUp : Raw → Result PayloadSummary StreamError → Type 0
SumsUp raw result = summary_or result ≡ summary_at raw (decode_raw raw)
