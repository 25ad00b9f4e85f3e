-- The names and numbers of the errors.
use Rattle.std.specs.Prelude.{ℕ, List, codes}
use Rattle.amqp_types.specs.declared.errors.ParserError.{ParserError}
use Rattle.amqp_types.specs.declared.errors.ParserError.TheVariants as parser_errors
use Rattle.amqp_types.specs.declared.errors.GenError.{GenError}
use Rattle.amqp_types.specs.declared.errors.GenError.TheVariants as gen_errors

-- the number of an error of decoding, from 1 on in the order of the variants
abbrev pub parser_error_number : ParserError → ℕ
parser_error_number parser_errors.Incomplete = 1
parser_error_number parser_errors.UnknownFrameType = 2
parser_error_number parser_errors.BadProtocolHeader = 3
parser_error_number parser_errors.BadFrameEnd = 4
parser_error_number parser_errors.UnknownClass = 5
parser_error_number parser_errors.UnknownMethod = 6
parser_error_number parser_errors.ShortPayload = 7
parser_error_number parser_errors.TrailingBytes = 8
parser_error_number parser_errors.NotUtf8 = 9
parser_error_number parser_errors.UnknownTag = 10
parser_error_number parser_errors.TooDeep = 11
parser_error_number parser_errors.NoMemory = 12

-- the text as which an error of decoding is rendered: the name of its variant
abbrev pub parser_error_name : ParserError → List ℕ
parser_error_name parser_errors.Incomplete = codes "Incomplete"
parser_error_name parser_errors.UnknownFrameType = codes "UnknownFrameType"
parser_error_name parser_errors.BadProtocolHeader = codes "BadProtocolHeader"
parser_error_name parser_errors.BadFrameEnd = codes "BadFrameEnd"
parser_error_name parser_errors.UnknownClass = codes "UnknownClass"
parser_error_name parser_errors.UnknownMethod = codes "UnknownMethod"
parser_error_name parser_errors.ShortPayload = codes "ShortPayload"
parser_error_name parser_errors.TrailingBytes = codes "TrailingBytes"
parser_error_name parser_errors.NotUtf8 = codes "NotUtf8"
parser_error_name parser_errors.UnknownTag = codes "UnknownTag"
parser_error_name parser_errors.TooDeep = codes "TooDeep"
parser_error_name parser_errors.NoMemory = codes "NoMemory"

-- the number of an error of encoding, from 1 on in the order of the variants
abbrev pub gen_error_number : GenError → ℕ
gen_error_number gen_errors.TooDeep = 1
gen_error_number gen_errors.TooLong = 2
gen_error_number gen_errors.BufferTooSmall = 3
gen_error_number gen_errors.NoMemory = 4

-- the text as which an error of encoding is rendered: the name of its variant
abbrev pub gen_error_name : GenError → List ℕ
gen_error_name gen_errors.TooDeep = codes "TooDeep"
gen_error_name gen_errors.TooLong = codes "TooLong"
gen_error_name gen_errors.BufferTooSmall = codes "BufferTooSmall"
gen_error_name gen_errors.NoMemory = codes "NoMemory"
