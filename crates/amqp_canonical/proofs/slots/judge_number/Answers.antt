-- `judge_number`: clause `judged`.
use Rattle.std.proofs.Common.{arith}
use Rattle.amqp_canonical.proofs.OneSlot.{number_form_past, number_form_took}
use Rattle.amqp_canonical.proofs.slots.judge_number.Goals as goal

pub returns-then-i-count-clause-judged : goal.returns-then-i-count-clause-judged
returns-then-i-count-clause-judged c = λ width count. (λ e. cc, number_form_past width c.args.i.now c.args.count count c.if-i-count.true)

pub returns-clause-judged : goal.returns-clause-judged
returns-clause-judged c =
    λ width count. number_form_took width c.args.i.now c.args.count (λ k. omega (arith, c.type_inv.i k)) count (omega (arith, c.if-i-count.false))
