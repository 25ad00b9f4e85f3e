-- What is reported of what was put or refused.
use Rattle.std.specs.Prelude.{◌≡◌, ℕ, Result, Ok, Err}
use Rattle.amqp_types.specs.declared.errors.ParserError.{ParserError}
use Rattle.amqp_types.specs.declared.errors.ParserError.TheVariants as faults
use Rattle.amqp_entries.specs.declared.errors.PutError.{PutError}
use Rattle.amqp_entries.specs.declared.errors.PutError.TheVariants as errors
use Rattle.amqp_c_put.specs.declared.report.PutReport.{PutReport}

-- the status of a content that is not decoded: what else it may have is something that passes its
-- end
abbrev pub content_status : ParserError → ℕ
content_status faults.NotUtf8 = 18
content_status faults.UnknownTag = 19
content_status faults.TooDeep = 20
content_status _ = 16

-- why nothing was put
abbrev pub refused : ℕ → PutReport
refused status = record { length = 0; status = status; unused = 0 }

-- the number of bytes with 0, or why there are none
abbrev pub report_of : Result ℕ PutError → PutReport
report_of (Ok n) = record { length = n; status = 0; unused = 0 }
report_of (Err errors.TooLong) = refused 42
report_of (Err errors.NotUtf8) = refused 18
report_of (Err (errors.Content fault)) = refused (content_status fault)
report_of (Err errors.TooLarge) = refused 12
report_of (Err (errors.BufferTooSmall n)) = record { length = n; status = 40; unused = 0 }

-- the report tells what a call returns of whose result this holds
pub record Reports (returns : Result ℕ PutError → Type 0) (report : PutReport) : Type 0 where
  pub result : Result ℕ PutError
  pub returned : returns result
  pub report_is : report ≡ report_of result
