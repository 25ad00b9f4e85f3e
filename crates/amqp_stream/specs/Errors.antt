-- The errors of streams: the faults of bytes that they report, their names and statuses.
use Rattle.std.specs.Prelude.{ℕ, List, codes, Option, Some, None, Result, Ok, Err}
use Rattle.amqp_types.specs.Judging.{Fault, unknown_frame_type, bad_protocol_header, too_large}
use Rattle.amqp_types.specs.Judging.{bad_frame_end, unknown_class, unknown_method, short_payload}
use Rattle.amqp_types.specs.Judging.{trailing_bytes, not_utf8, unknown_tag, too_deep, not_tidy}
use Rattle.amqp_stream.specs.declared.errors.ReadError.{ReadError}
use Rattle.amqp_stream.specs.declared.errors.ReadError.TheVariants as reads
use Rattle.amqp_stream.specs.declared.errors.RunError.{RunError}
use Rattle.amqp_stream.specs.declared.errors.RunError.TheVariants as ends
use Rattle.amqp_stream.specs.declared.errors.StreamError.{StreamError}
use Rattle.amqp_stream.specs.declared.errors.StreamError.TheVariants as errors

-- the error of a stream that an error of reading is
abbrev pub stream_error : ReadError → StreamError
stream_error reads.UnknownFrameType = errors.UnknownFrameType
stream_error reads.BadProtocolHeader = errors.BadProtocolHeader
stream_error reads.TooLarge = errors.TooLarge
stream_error reads.BadFrameEnd = errors.BadFrameEnd
stream_error reads.CutShort = errors.CutShort
stream_error reads.TurnsSpent = errors.TurnsSpent
stream_error reads.ReadFault = errors.ReadFault

-- the error that reports a fault of bytes
abbrev pub error_for : Fault → StreamError
error_for unknown_frame_type = errors.UnknownFrameType
error_for bad_protocol_header = errors.BadProtocolHeader
error_for too_large = errors.TooLarge
error_for bad_frame_end = errors.BadFrameEnd
error_for unknown_class = errors.UnknownClass
error_for unknown_method = errors.UnknownMethod
error_for short_payload = errors.ShortPayload
error_for trailing_bytes = errors.TrailingBytes
error_for not_utf8 = errors.NotUtf8
error_for unknown_tag = errors.UnknownTag
error_for too_deep = errors.TooDeep
error_for not_tidy = errors.NotTidy

-- the fault of bytes that an error of reading reports
abbrev pub read_fault : ReadError → Option Fault
read_fault reads.UnknownFrameType = Some unknown_frame_type
read_fault reads.BadProtocolHeader = Some bad_protocol_header
read_fault reads.TooLarge = Some too_large
read_fault reads.BadFrameEnd = Some bad_frame_end
read_fault reads.CutShort = None
read_fault reads.TurnsSpent = None
read_fault reads.ReadFault = None

-- the name of an error of reading
abbrev pub read_error_name : ReadError → List ℕ
read_error_name reads.UnknownFrameType = codes "UnknownFrameType"
read_error_name reads.BadProtocolHeader = codes "BadProtocolHeader"
read_error_name reads.TooLarge = codes "TooLarge"
read_error_name reads.BadFrameEnd = codes "BadFrameEnd"
read_error_name reads.CutShort = codes "CutShort"
read_error_name reads.TurnsSpent = codes "TurnsSpent"
read_error_name reads.ReadFault = codes "ReadFault"

-- the name of an error of a stream
abbrev pub stream_error_name : StreamError → List ℕ
stream_error_name errors.UnknownFrameType = codes "UnknownFrameType"
stream_error_name errors.BadProtocolHeader = codes "BadProtocolHeader"
stream_error_name errors.TooLarge = codes "TooLarge"
stream_error_name errors.BadFrameEnd = codes "BadFrameEnd"
stream_error_name errors.UnknownClass = codes "UnknownClass"
stream_error_name errors.UnknownMethod = codes "UnknownMethod"
stream_error_name errors.ShortPayload = codes "ShortPayload"
stream_error_name errors.TrailingBytes = codes "TrailingBytes"
stream_error_name errors.NotUtf8 = codes "NotUtf8"
stream_error_name errors.UnknownTag = codes "UnknownTag"
stream_error_name errors.TooDeep = codes "TooDeep"
stream_error_name errors.NotTidy = codes "NotTidy"
stream_error_name errors.CutShort = codes "CutShort"
stream_error_name errors.TurnsSpent = codes "TurnsSpent"
stream_error_name errors.ReadFault = codes "ReadFault"
stream_error_name errors.WriteFault = codes "WriteFault"
stream_error_name errors.NoMemory = codes "NoMemory"

-- the exit status of a program that ends with the error
abbrev pub stream_error_status : StreamError → ℕ
stream_error_status errors.NoMemory = 3
stream_error_status errors.ReadFault = 4
stream_error_status errors.WriteFault = 5
stream_error_status errors.UnknownFrameType = 10
stream_error_status errors.BadProtocolHeader = 11
stream_error_status errors.TooLarge = 12
stream_error_status errors.BadFrameEnd = 13
stream_error_status errors.UnknownClass = 14
stream_error_status errors.UnknownMethod = 15
stream_error_status errors.ShortPayload = 16
stream_error_status errors.TrailingBytes = 17
stream_error_status errors.NotUtf8 = 18
stream_error_status errors.UnknownTag = 19
stream_error_status errors.TooDeep = 20
stream_error_status errors.CutShort = 21
stream_error_status errors.TurnsSpent = 22
stream_error_status errors.NotTidy = 23

-- the name of an error of a run, by the names of refusals
abbrev pub run_error_name : {E : Type 0} → (E → List ℕ) → RunError E → List ℕ
run_error_name name_of (ends.Stream error) = stream_error_name error
run_error_name name_of (ends.Refused why) = name_of why

-- the exit status of a program that ends with it, by those of refusals
abbrev pub run_error_status : {E : Type 0} → (E → ℕ) → RunError E → ℕ
run_error_status status_of (ends.Stream error) = stream_error_status error
run_error_status status_of (ends.Refused why) = status_of why

-- the status of a result
abbrev pub status_of : Result (Unit {0}) StreamError → ℕ
status_of (Ok done) = 0
status_of (Err error) = stream_error_status error

-- Why a stream ended early: a fault of bytes, or what it ran out of, or which of its ends failed.
pub data Cause : Type 0 where
  faulty : Fault → Cause
  cut_short : Cause
  budget_spent : Cause
  read_failed : Cause
  write_failed : Cause
  out_of_memory : Cause

-- the cause that an error reports; each cause has one error
abbrev pub cause_of : StreamError → Cause
cause_of errors.UnknownFrameType = faulty unknown_frame_type
cause_of errors.BadProtocolHeader = faulty bad_protocol_header
cause_of errors.TooLarge = faulty too_large
cause_of errors.BadFrameEnd = faulty bad_frame_end
cause_of errors.UnknownClass = faulty unknown_class
cause_of errors.UnknownMethod = faulty unknown_method
cause_of errors.ShortPayload = faulty short_payload
cause_of errors.TrailingBytes = faulty trailing_bytes
cause_of errors.NotUtf8 = faulty not_utf8
cause_of errors.UnknownTag = faulty unknown_tag
cause_of errors.TooDeep = faulty too_deep
cause_of errors.NotTidy = faulty not_tidy
cause_of errors.CutShort = cut_short
cause_of errors.TurnsSpent = budget_spent
cause_of errors.ReadFault = read_failed
cause_of errors.WriteFault = write_failed
cause_of errors.NoMemory = out_of_memory
