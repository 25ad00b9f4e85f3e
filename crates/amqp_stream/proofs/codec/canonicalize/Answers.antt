-- `canonicalize`: clause `run`.
use Rattle.amqp_stream.proofs
use proofs.Reporting.{without_report}
use proofs.codec.canonicalize.Goals as goal

pub returns-clause-run : goal.returns-clause-run
returns-clause-run g c = rw c.unreported.ensures (without_report c.canonicalize_reported.ensures.run)
