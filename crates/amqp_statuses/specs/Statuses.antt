-- Number, name and sentence of each status.
use Rattle.std.specs.Prelude.{ℕ, List, codes}
use Rattle.amqp_statuses.specs.declared.status.Status.{Status}
use Rattle.amqp_statuses.specs.declared.status.Status.TheVariants as statuses

-- the number with which a program ends
abbrev pub status_number : Status → ℕ
status_number statuses.ArgumentsUnavailable = 1
status_number statuses.InvalidArguments = 2
status_number statuses.NoMemory = 3
status_number statuses.ReadFault = 4
status_number statuses.WriteFault = 5
status_number statuses.LongText = 6
status_number statuses.BadHex = 7
status_number statuses.UnknownFrameType = 10
status_number statuses.BadProtocolHeader = 11
status_number statuses.TooLarge = 12
status_number statuses.BadFrameEnd = 13
status_number statuses.UnknownClass = 14
status_number statuses.UnknownMethod = 15
status_number statuses.ShortPayload = 16
status_number statuses.TrailingBytes = 17
status_number statuses.NotUtf8 = 18
status_number statuses.UnknownTag = 19
status_number statuses.TooDeep = 20
status_number statuses.CutShort = 21
status_number statuses.TurnsSpent = 22
status_number statuses.NotTidy = 23
status_number statuses.BadContent = 24
status_number statuses.OpenContent = 25
status_number statuses.BadText = 26
status_number statuses.BufferTooSmall = 40
status_number statuses.BadArgument = 41
status_number statuses.TooLong = 42

-- the name, where it has one
abbrev pub status_name : Status → List ℕ
status_name statuses.ArgumentsUnavailable = codes ""
status_name statuses.InvalidArguments = codes ""
status_name statuses.NoMemory = codes "NoMemory"
status_name statuses.ReadFault = codes "ReadFault"
status_name statuses.WriteFault = codes "WriteFault"
status_name statuses.LongText = codes ""
status_name statuses.BadHex = codes "BadHex"
status_name statuses.UnknownFrameType = codes "UnknownFrameType"
status_name statuses.BadProtocolHeader = codes "BadProtocolHeader"
status_name statuses.TooLarge = codes "TooLarge"
status_name statuses.BadFrameEnd = codes "BadFrameEnd"
status_name statuses.UnknownClass = codes "UnknownClass"
status_name statuses.UnknownMethod = codes "UnknownMethod"
status_name statuses.ShortPayload = codes "ShortPayload"
status_name statuses.TrailingBytes = codes "TrailingBytes"
status_name statuses.NotUtf8 = codes "NotUtf8"
status_name statuses.UnknownTag = codes "UnknownTag"
status_name statuses.TooDeep = codes "TooDeep"
status_name statuses.CutShort = codes "CutShort"
status_name statuses.TurnsSpent = codes "TurnsSpent"
status_name statuses.NotTidy = codes "NotTidy"
status_name statuses.BadContent = codes "BadContent"
status_name statuses.OpenContent = codes "OpenContent"
status_name statuses.BadText = codes "BadText"
status_name statuses.BufferTooSmall = codes "BufferTooSmall"
status_name statuses.BadArgument = codes "BadArgument"
status_name statuses.TooLong = codes "TooLong"

-- what it says
abbrev pub status_sentence : Status → List ℕ
status_sentence statuses.ArgumentsUnavailable = codes "the arguments cannot be had from the system"
status_sentence statuses.InvalidArguments = codes "invalid arguments"
status_sentence statuses.NoMemory = codes "out of memory"
status_sentence statuses.ReadFault = codes "a read failed"
status_sentence statuses.WriteFault = codes "a write failed"
status_sentence statuses.LongText = codes "more than 16,777,216 bytes of text"
status_sentence statuses.BadHex =
    codes "the text, but for one newline at its end, is not an even number of hex digits"
status_sentence statuses.UnknownFrameType =
    codes "the first byte of a frame is none of 1, 2, 3, 8 and 65"
status_sentence statuses.BadProtocolHeader = codes "a frame begins as a protocol header and is none"
status_sentence statuses.TooLarge = codes "a payload is longer than the limit"
status_sentence statuses.BadFrameEnd = codes "the byte after the payload is not 206"
status_sentence statuses.UnknownClass = codes "a method of no class"
status_sentence statuses.UnknownMethod = codes "a method that its class does not have"
status_sentence statuses.ShortPayload =
    codes "something passes the end of the payload, or of a table or an array in it"
status_sentence statuses.TrailingBytes = codes "bytes are left after the last field of a payload"
status_sentence statuses.NotUtf8 = codes "a short string is not UTF-8"
status_sentence statuses.UnknownTag = codes "a field tag of no kind of value"
status_sentence statuses.TooDeep = codes "tables or arrays nest more than 64 deep"
status_sentence statuses.CutShort = codes "the input ends inside a frame, or inside a line"
status_sentence statuses.TurnsSpent = codes "as many reads as were allowed were made"
status_sentence statuses.NotTidy = codes "a frame whose ignored parts are not canonical"
status_sentence statuses.BadContent = codes "a frame that may not come next on its channel"
status_sentence statuses.OpenContent = codes "the input ends inside a message"
status_sentence statuses.BadText =
    codes "a line is not the exact text form of any frame with a payload within the limit"
status_sentence statuses.BufferTooSmall = codes "the buffer is too short for what is written"
status_sentence statuses.BadArgument = codes "a number names none of what is asked for"
status_sentence statuses.TooLong =
    codes
    "a short string has more than 255 bytes, or what fills a table or an array more than 2^32 - 1"
