-- `filter`: clauses `run`, `never_untidy`, `never_too_large` and `never_faulted`.
use Rattle.amqp_stream.proofs.Reporting.{without_report}
use Rattle.amqp_filter.proofs.filtering.filter.Goals as goal

pub returns-clause-run : goal.returns-clause-run
returns-clause-run g c = rw c.unreported.ensures (without_report c.filter_reported.ensures.run)

pub returns-clause-never_untidy : goal.returns-clause-never_untidy
returns-clause-never_untidy g c = rw c.unreported.ensures c.filter_reported.ensures.never_untidy

pub returns-clause-never_too_large : goal.returns-clause-never_too_large
returns-clause-never_too_large g c = rw c.unreported.ensures c.filter_reported.ensures.never_too_large

pub returns-clause-never_faulted : goal.returns-clause-never_faulted
returns-clause-never_faulted g c = rw c.unreported.ensures c.filter_reported.ensures.never_faulted
