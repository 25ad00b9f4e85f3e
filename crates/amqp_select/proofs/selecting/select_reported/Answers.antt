-- `select_reported`: clause `run`.
use Rattle.std.proofs.Common.{sym, ◌∙◌}
use Rattle.amqp_select.proofs.Selected.{all_run, select_run}
use Rattle.amqp_select.proofs.selecting.select_reported.Goals as goal

pub returns-clause-run : goal.returns-clause-run
returns-clause-run g c = select_run _ c.unrefused_report.result (rw c.unrefused_report.ensures at c.run_stream_reported-run.ensures.run)

pub returns-in-Some-true-clause-run : goal.returns-in-Some-true-clause-run
returns-in-Some-true-clause-run g c =
    all_run c.args.rules.now c.canonicalize_reported.result
    (λ outline. sym c.in-Some-true.field-0-test ∙ c.in-Some-true.ensures.every outline) c.canonicalize_reported.ensures.run
