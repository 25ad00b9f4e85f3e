-- `LentCodec::canonicalize`: clause `run`.
use Rattle.std.proofs.Common.{◌≡◌, Result, Ok, Err, refl}
use Rattle.amqp_stream.specs.declared.report.RunReport.{RunReport}
use Rattle.amqp_stream.specs.Reports.{unreported}
use Rattle.amqp_lent.specs.declared.errors.LentError.{LentError}
use Rattle.amqp_lent.specs.Errors.{as_stream, as_stream_reported}
use Rattle.amqp_lent.proofs.codec.LentCodec.canonicalize.Goals as goal

unreported_stream : (r : Result (Unit {0}) (RunReport LentError)) → unreported (as_stream_reported r) ≡ as_stream (unreported r)
unreported_stream (Ok done) = refl
unreported_stream (Err report) = refl

pub returns-clause-run : goal.returns-clause-run
returns-clause-run g c = rw c.unreported.ensures (rw unreported_stream at c.canonicalize_reported.ensures.run.0)
