-- `without_covered`: what loops keep.
use Rattle.std.proofs.Common.{sym, ap, ◌∙◌}
use Rattle.std.specs.Prelude.{is_some}
use Rattle.amqp_select.proofs.Uncovered.{taken_on, passed_on}
use Rattle.amqp_select.proofs.rules.without_covered.Goals as goal

pub loop-k-preserved-then-is_some : goal.loop-k-preserved-then-is_some
loop-k-preserved-then-is_some c =
    let some = ap is_some (sym c.covered_by.ensures) ∙ sym c.is_some.ensures ∙ c.if-is_some.true in
    passed_on c.args.rules.now c.loop-k.kept.items _ c.loop-k.k c.loop-k-test.true c.loop-k.invariant some

pub loop-k-preserved : goal.loop-k-preserved
loop-k-preserved c =
    let none = ap is_some (sym c.covered_by.ensures) ∙ sym c.is_some.ensures ∙ c.if-is_some.false in
    rw c.in_ok-push.ensures.items (taken_on c.args.rules.now c.loop-k.kept.items _ c.loop-k.k _ c.loop-k-test.true c.loop-k.invariant none)
