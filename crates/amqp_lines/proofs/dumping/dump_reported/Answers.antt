-- `dump_reported`: clauses `run` and `never_untidy`.
use Rattle.amqp_lines.proofs
use proofs.Dumps.{dump_report, untidy_never}
use proofs.dumping.dump_reported.Goals as goal

pub returns-in-Ok-clause-run : goal.returns-in-Ok-clause-run
returns-in-Ok-clause-run g c = dump_report _ (rw c.unrefused_report.ensures at c.run_stream_reported-run.ensures.run)

pub returns-in-Ok-clause-never_untidy : goal.returns-in-Ok-clause-never_untidy
returns-in-Ok-clause-never_untidy g c = untidy_never _ (rw c.unrefused_report.ensures at c.run_stream_reported-run.ensures.run)
