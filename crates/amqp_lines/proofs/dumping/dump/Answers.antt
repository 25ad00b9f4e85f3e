-- `dump`: clauses `run` and `never_untidy`.
use Rattle.amqp_stream.proofs.Reporting.{without_report}
use Rattle.amqp_lines.proofs.dumping.dump.Goals as goal

pub returns-clause-run : goal.returns-clause-run
returns-clause-run g c = rw c.unreported.ensures (without_report c.dump_reported.ensures.run)

pub returns-clause-never_untidy : goal.returns-clause-never_untidy
returns-clause-never_untidy g c = rw c.unreported.ensures c.dump_reported.ensures.never_untidy
