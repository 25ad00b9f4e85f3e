-- `judge_set`: clause `judged` and what loops keep.
use Rattle.std.proofs.Common.{ℕ, length, drop, sym, subst, ◌∙◌, ◌≤◌, arith}
use Rattle.std.proofs.lemmas.List.{length-drop, take_rest}
use Rattle.amqp_types.specs.PropertyJudging.{judge_set}
use Rattle.amqp_types.specs.PropertySpelling.{SpellsSet}
use Rattle.amqp_canonical.specs.SlotJudgements.{JudgesLevels}
use Rattle.amqp_canonical.specs.declared.shapes.Form.{Form}
use Rattle.amqp_canonical.specs.declared.shapes.Form.TheVariants as forms
use Rattle.amqp_canonical.proofs.Refusing.{Fails}
use Rattle.amqp_canonical.proofs.Joining.{judgement, reached_none, reached_all}
use Rattle.amqp_canonical.proofs.Properties.{properties_walk, property_absent, property_there, property_fails}
use Rattle.amqp_canonical.proofs.headers.judge_set.Goals as goal

abbrev other : ℕ × Form
other = (0, forms.Octet)

pub loop-shape-init : goal.loop-shape-init
loop-shape-init c = (omega arith, reached_none (properties_walk c.args.mask) c.property_shapes-shapes.result.now c.args.i.now)

pub loop-shape-preserved-then-not-has_bit : goal.loop-shape-preserved-then-not-has_bit
loop-shape-preserved-then-not-has_bit c =
    let l = c.loop-shape in
    (l.invariant.0, property_absent c.args.mask other l.invariant.1 c.loop-shape-test.true (sym c.has_bit.ensures ∙ c.if-not-has_bit.true))

pub returns-in-Err-clause-judged : goal.returns-in-Err-clause-judged
returns-in-Err-clause-judged c =
    subst (λ ps. Fails c.in-Err.error (judge_set c.args.mask ps c.args.i.now)) c.property_shapes-shapes.ensures
    (property_fails c.args.mask other c.loop-shape.invariant.1 c.loop-shape-test.true c.in-Err.error (λ k. omega (arith, c.type_inv.i k))
    (sym c.has_bit.ensures ∙ c.if-not-has_bit.false) (rw take_rest at c.in-Err.ensures.judged))

pub loop-shape-preserved : goal.loop-shape-preserved
loop-shape-preserved c =
    let l = c.loop-shape in
    let used = c.in-Ok.ensures.used in
    let fits : c.in-Ok.property.used ≤ length (drop l.at c.args.i.now) = rw take_rest at used in (
      omega (arith, l.invariant.0, fits, length-drop l.at c.args.i.now),
      property_there c.args.mask other l.invariant.1 c.loop-shape-test.true c.in-Ok.property (λ k. omega (arith, c.type_inv.i k))
          (sym c.has_bit.ensures ∙ c.if-not-has_bit.false) (rw take_rest at c.in-Ok.ensures.judged),
    )

pub returns-clause-judged : goal.returns-clause-judged
returns-clause-judged c =
    let l = c.loop-shape in
    subst
    (λ ps. JudgesLevels (λ level. SpellsSet level c.args.mask ps) c.args.i.now (judgement l.at l.canonical l.tidy) (judge_set c.args.mask ps c.args.i.now))
    c.property_shapes-shapes.ensures (reached_all (properties_walk c.args.mask) l.invariant.1 c.loop-shape-test.false)
