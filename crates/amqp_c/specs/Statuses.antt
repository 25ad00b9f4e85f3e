-- Statuses beside those of streams, and the names of all.
use Rattle.std.specs.Prelude.{◌≡◌, ◌==◌, ◌<◌, ◌≤◌, ℕ, List, codes, length}
use Rattle.std.specs.Prelude.{if◌then◌else◌, Option, Some, None}
use Rattle.amqp_types.specs.Writing.{written}
use Rattle.amqp_types.specs.declared.errors.ParserError.{ParserError}
use Rattle.amqp_types.specs.declared.errors.ParserError.TheVariants as parser_errors
use Rattle.amqp_stream.specs.declared.errors.StreamError.{StreamError}
use Rattle.amqp_stream.specs.declared.errors.StreamError.TheVariants as streams
use Rattle.amqp_stream.specs.Errors.{stream_error_name, stream_error_status}
use Rattle.amqp_c.specs.declared.statuses.CallError.{CallError}
use Rattle.amqp_c.specs.declared.statuses.CallError.TheVariants as errors

-- out of memory
abbrev pub out_of_memory : ℕ
out_of_memory = 3

-- the bytes, or the text, end inside a frame or a line
abbrev pub cut_short : ℕ
cut_short = 21

-- a frame may not come next on its channel
abbrev pub bad_content : ℕ
bad_content = 24

-- the input ends inside a message
abbrev pub open_content : ℕ
open_content = 25

-- a line is the line of no frame
abbrev pub bad_text : ℕ
bad_text = 26

-- the buffer is too short for what is written
abbrev pub buffer_too_small : ℕ
buffer_too_small = 40

-- an argument is none of those that are allowed
abbrev pub bad_argument : ℕ
bad_argument = 41

-- a short string is longer than its length can say
abbrev pub too_long : ℕ
too_long = 42

-- the error of a stream for one of a frame, or of what stands in a table or an array
abbrev pub decoding_error : ParserError → StreamError
decoding_error parser_errors.Incomplete = streams.CutShort
decoding_error parser_errors.UnknownFrameType = streams.UnknownFrameType
decoding_error parser_errors.BadProtocolHeader = streams.BadProtocolHeader
decoding_error parser_errors.BadFrameEnd = streams.BadFrameEnd
decoding_error parser_errors.UnknownClass = streams.UnknownClass
decoding_error parser_errors.UnknownMethod = streams.UnknownMethod
decoding_error parser_errors.ShortPayload = streams.ShortPayload
decoding_error parser_errors.TrailingBytes = streams.TrailingBytes
decoding_error parser_errors.NotUtf8 = streams.NotUtf8
decoding_error parser_errors.UnknownTag = streams.UnknownTag
decoding_error parser_errors.TooDeep = streams.TooDeep
decoding_error parser_errors.NoMemory = streams.NoMemory

-- the status of an error; a stream's error keeps its own
abbrev pub call_error_status : CallError → ℕ
call_error_status (errors.Stream error) = stream_error_status error
call_error_status errors.BadContent = bad_content
call_error_status errors.OpenContent = open_content
call_error_status errors.BadText = bad_text
call_error_status errors.BufferTooSmall = buffer_too_small
call_error_status errors.BadArgument = bad_argument
call_error_status errors.TooLong = too_long

-- the name of an error; a stream's error keeps its own
abbrev pub call_error_name : CallError → List ℕ
call_error_name (errors.Stream error) = stream_error_name error
call_error_name errors.BadContent = codes "BadContent"
call_error_name errors.OpenContent = codes "OpenContent"
call_error_name errors.BadText = codes "BadText"
call_error_name errors.BufferTooSmall = codes "BufferTooSmall"
call_error_name errors.BadArgument = codes "BadArgument"
call_error_name errors.TooLong = codes "TooLong"

-- Bytes are written at the front of a buffer, where it is long enough, and their
-- number is returned.
pub record WritesFront (bytes old new : List ℕ) (result : ℕ) : Type 0 where
  pub length_is : result ≡ length bytes
  pub fits : length bytes ≤ length old → new ≡ written old 0 bytes
  pub too_long : length old < length bytes → new ≡ old

-- the same of a name
abbrev pub WritesName : List ℕ → List ℕ → List ℕ → ℕ → Type 0
WritesName name old new result = WritesFront name old new result

-- the error that has a status; each has one of its own
abbrev pub call_error_at : ℕ → Option CallError
call_error_at status =
    if status == 3 then Some (errors.Stream streams.NoMemory)
    else (if status == 4 then Some (errors.Stream streams.ReadFault)
    else (if status == 5 then Some (errors.Stream streams.WriteFault)
    else (if status == 10 then Some (errors.Stream streams.UnknownFrameType)
    else (if status == 11 then Some (errors.Stream streams.BadProtocolHeader)
    else (if status == 12 then Some (errors.Stream streams.TooLarge)
    else (if status == 13 then Some (errors.Stream streams.BadFrameEnd)
    else (if status == 14 then Some (errors.Stream streams.UnknownClass)
    else (if status == 15 then Some (errors.Stream streams.UnknownMethod)
    else (if status == 16 then Some (errors.Stream streams.ShortPayload)
    else (if status == 17 then Some (errors.Stream streams.TrailingBytes)
    else (if status == 18 then Some (errors.Stream streams.NotUtf8)
    else (if status == 19 then Some (errors.Stream streams.UnknownTag)
    else (if status == 20 then Some (errors.Stream streams.TooDeep)
    else (if status == 21 then Some (errors.Stream streams.CutShort)
    else (if status == 22 then Some (errors.Stream streams.TurnsSpent)
    else (if status == 23 then Some (errors.Stream streams.NotTidy)
    else (if status == bad_content then Some errors.BadContent
    else (if status == open_content then Some errors.OpenContent
    else (if status == bad_text then Some errors.BadText
    else (if status == buffer_too_small then Some errors.BufferTooSmall
    else (if status == bad_argument then Some errors.BadArgument
    else (if status == too_long then Some errors.TooLong else None))))))))))))))))))))))
