-- `judge_field_table`: clause `judged`.
use Rattle.std.proofs.Common.{arith}
use Rattle.amqp_canonical.proofs.OneSlot.{err_passed, table_form_fails, table_form_took}
use Rattle.amqp_canonical.proofs.slots.judge_field_table.Goals as goal

pub returns-in_err-table-clause-judged : goal.returns-in_err-table-clause-judged
returns-in_err-table-clause-judged c =
    err_passed _ _ _ _ _ _ c.from_residual.ensures.1
    (table_form_fails c.args.i.now c.in_err-table.field-0.0 c.in_err-table.ensures.judged)

pub returns-clause-judged : goal.returns-clause-judged
returns-clause-judged c = table_form_took c.args.i.now c.in_ok-table.table (λ k. omega (arith, c.type_inv.i k)) c.in_ok-table.ensures.judged
