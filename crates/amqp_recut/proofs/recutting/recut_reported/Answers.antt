-- `recut_reported`: clauses `run`, `never_untidy`, `never_too_large` and `never_faulted`.
use Rattle.std.proofs.Common.{refl}
use Rattle.amqp_stream.proofs.Reporting.{without_report}
use Rattle.amqp_in_turn.proofs.RunsInTurn.{never_untidy, fresh}
use Rattle.amqp_in_turn.proofs.Reporting.{unreported_turned, reported_run}
use Rattle.amqp_recut.proofs.Running.{recuts_by_turns, is_new}
use Rattle.amqp_recut.proofs.recutting.recut_reported.Goals as goal

pub returns-clause-run : goal.returns-clause-run
returns-clause-run g c =
    rw c.as_turned_report.ensures (reported_run _ _ (recuts_by_turns _ c.requires.some) _ c.run_stream_reported-run.result
    (is_new _ c.requires.some _ c.new-writer.ensures.size c.new-writer.ensures.messages) c.run_stream_reported-run.ensures.run)

pub returns-clause-never_untidy : goal.returns-clause-never_untidy
returns-clause-never_untidy g c =
    rw (c.as_turned_report.ensures, unreported_turned)
    (never_untidy _ _ (recuts_by_turns _ c.requires.some) _ (without_report c.run_stream_reported-run.ensures.run))

pub returns-clause-never_too_large : goal.returns-clause-never_too_large
returns-clause-never_too_large g c =
    rw (c.as_turned_report.ensures, unreported_turned) (λ e.
    (fresh _ _ (recuts_by_turns _ c.requires.some) _ _
    (is_new _ c.requires.some _ c.new-writer.ensures.size c.new-writer.ensures.messages) (without_report c.run_stream_reported-run.ensures.run) e).0
    refl)

pub returns-clause-never_faulted : goal.returns-clause-never_faulted
returns-clause-never_faulted g c =
    rw (c.as_turned_report.ensures, unreported_turned) (λ e.
    (fresh _ _ (recuts_by_turns _ c.requires.some) _ _
    (is_new _ c.requires.some _ c.new-writer.ensures.size c.new-writer.ensures.messages) (without_report c.run_stream_reported-run.ensures.run) e).1
    refl)
