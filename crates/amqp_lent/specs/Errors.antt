-- The errors of a codec that takes no memory, as errors of streams.
use Rattle.std.specs.Prelude.{Result, Ok, Err}
use Rattle.amqp_stream.specs.declared.errors.StreamError.{StreamError}
use Rattle.amqp_stream.specs.declared.errors.StreamError.TheVariants as errors
use Rattle.amqp_stream.specs.declared.report.RunReport.{RunReport}
use Rattle.amqp_lent.specs.declared.errors.LentError.{LentError}
use Rattle.amqp_lent.specs.declared.errors.LentError.TheVariants as lent

-- the error of a stream with the same cause
abbrev pub codec_error : LentError → StreamError
codec_error lent.UnknownFrameType = errors.UnknownFrameType
codec_error lent.BadProtocolHeader = errors.BadProtocolHeader
codec_error lent.TooLarge = errors.TooLarge
codec_error lent.BadFrameEnd = errors.BadFrameEnd
codec_error lent.UnknownClass = errors.UnknownClass
codec_error lent.UnknownMethod = errors.UnknownMethod
codec_error lent.ShortPayload = errors.ShortPayload
codec_error lent.TrailingBytes = errors.TrailingBytes
codec_error lent.NotUtf8 = errors.NotUtf8
codec_error lent.UnknownTag = errors.UnknownTag
codec_error lent.TooDeep = errors.TooDeep
codec_error lent.CutShort = errors.CutShort
codec_error lent.TurnsSpent = errors.TurnsSpent
codec_error lent.ReadFault = errors.ReadFault
codec_error lent.WriteFault = errors.WriteFault

-- what a stream returns with the same cause
abbrev pub as_stream : Result (Unit {0}) LentError → Result (Unit {0}) StreamError
as_stream (Ok done) = Ok done
as_stream (Err error) = Err (codec_error error)

-- the same, with the report
abbrev pub as_stream_reported : Result (Unit {0}) (RunReport LentError)
    → Result (Unit {0}) (RunReport StreamError)
as_stream_reported (Ok done) = Ok done
as_stream_reported (Err report) =
    Err
    (record { error = codec_error report.error; place = report.place; channel = report.channel })
