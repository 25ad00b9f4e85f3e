-- Why something is not put.
use Rattle.std.specs.Prelude.{ℕ, nat_lt, List, length, if◌then◌else◌}
use Rattle.std.specs.Prelude.{Option, Some, None, Result, Ok, Err}
use Rattle.std.specs.Str.{is_utf8}
use Rattle.amqp_types.specs.Judging.{Fault, unknown_frame_type, bad_protocol_header, too_large}
use Rattle.amqp_types.specs.Judging.{bad_frame_end, unknown_class, unknown_method, short_payload}
use Rattle.amqp_types.specs.Judging.{trailing_bytes, not_utf8, unknown_tag, too_deep, not_tidy}
use Rattle.amqp_types.specs.Strings.{is_too_long}
use Rattle.amqp_types.specs.declared.errors.ParserError.{ParserError}
use Rattle.amqp_types.specs.declared.errors.ParserError.TheVariants as parser
use Rattle.amqp_entries.specs.declared.errors.PutError.{PutError}
use Rattle.amqp_entries.specs.declared.errors.PutError.TheVariants as errors

-- the first of two
abbrev pub first_of : Option PutError → Option PutError → Option PutError
first_of None flaw = flaw
first_of (Some refusal) flaw = Some refusal

-- a key or another short string has at most 255 bytes, of UTF-8
abbrev pub text_flaw : List ℕ → Option PutError
text_flaw text = if nat_lt 255 (length text) then Some errors.TooLong else
    (if is_utf8 text then None else Some errors.NotUtf8)

-- four bytes hold the length of a long string
abbrev pub long_flaw : List ℕ → Option PutError
long_flaw content = if is_too_long content then Some errors.TooLong else None

-- the error of a fault; what a content holds never has the two faults of frames that have no error
-- of their own
abbrev pub error_of : Fault → ParserError
error_of unknown_frame_type = parser.UnknownFrameType
error_of bad_protocol_header = parser.BadProtocolHeader
error_of too_large = parser.Incomplete
error_of bad_frame_end = parser.BadFrameEnd
error_of unknown_class = parser.UnknownClass
error_of unknown_method = parser.UnknownMethod
error_of short_payload = parser.ShortPayload
error_of trailing_bytes = parser.TrailingBytes
error_of not_utf8 = parser.NotUtf8
error_of unknown_tag = parser.UnknownTag
error_of too_deep = parser.TooDeep
error_of not_tidy = parser.Incomplete

-- the fault of a content, where it has one
abbrev pub fault_flaw : {A : Type 0} → Result A Fault → Option PutError
fault_flaw (Ok things) = None
fault_flaw (Err bad) = Some (errors.Content (error_of bad))

-- four bytes hold the length of a content, and it has no fault
abbrev pub content_flaw : {A : Type 0} → List ℕ → Result A Fault → Option PutError
content_flaw content read = if is_too_long content then Some errors.TooLong else fault_flaw read

-- the number of bytes, or why they are not put
abbrev pub size_or : Option PutError → List ℕ → Result ℕ PutError
size_or None bytes = Ok (length bytes)
size_or (Some refusal) bytes = Err refusal
