-- `run_stream`: clause `run`.
use Rattle.amqp_stream.proofs
use proofs.Reporting.{without_report}
use proofs.codec.run_stream.Goals as goal

pub returns : goal.returns
returns g c = record { run = rw c.unreported.ensures (without_report c.run_stream_reported.ensures.run) }
