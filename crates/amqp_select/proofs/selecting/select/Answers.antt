-- `select`: clauses `run` and `never_untidy`.
use Rattle.amqp_stream.proofs.Reporting.{without_report}
use Rattle.amqp_select.proofs.selecting.select.Goals as goal

pub returns-clause-run : goal.returns-clause-run
returns-clause-run g c = rw c.unreported.ensures (without_report c.select_reported.ensures.run)

pub returns-clause-never_untidy : goal.returns-clause-never_untidy
returns-clause-never_untidy g c = rw c.unreported.ensures c.select_reported.ensures.never_untidy
