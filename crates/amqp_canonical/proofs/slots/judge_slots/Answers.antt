-- `judge_slots`: clause `judged` and what loops keep.
use Rattle.std.proofs.Common.{length, drop, ◌≤◌, arith}
use Rattle.std.proofs.lemmas.List.{length-drop, take_rest}
use Rattle.amqp_laws.proofs.SlotLaws.{slots_lawful}
use Rattle.amqp_canonical.specs.declared.shapes.Form.TheVariants as forms
use Rattle.amqp_canonical.specs.declared.shapes.Slot.TheVariants as slots
use Rattle.amqp_canonical.specs.Shapes.{slots_of}
use Rattle.amqp_canonical.proofs.Constants.{constant_at, slots_least}
use Rattle.amqp_canonical.proofs.Forms.{slots_walk, canonical_of_levels}
use Rattle.amqp_canonical.proofs.Joining.{judgement, reached_none, reached_more, reached_fails, reached_all}
use Rattle.amqp_canonical.proofs.slots.judge_slots.Goals as goal

pub loop-shape-init : goal.loop-shape-init
loop-shape-init c = (omega arith, reached_none slots_walk c.args.shapes.now c.args.i.now)

pub returns-in-Err-clause-judged : goal.returns-in-Err-clause-judged
returns-in-Err-clause-judged c =
    reached_fails slots_walk c.loop-shape.invariant.1 c.in-Err.error
    (slots.Kept forms.Octet) c.loop-shape-test.true (rw take_rest at c.in-Err.ensures.judged)

pub loop-shape-preserved : goal.loop-shape-preserved
loop-shape-preserved c =
    let l = c.loop-shape in
    let used = c.in-Ok.ensures.used in
    let fits : c.in-Ok.slot.used ≤ length (drop l.at c.args.i.now) = rw take_rest at used in (
      omega (arith, l.invariant.0, fits, length-drop l.at c.args.i.now),
      reached_more slots_walk l.invariant.1 c.in-Ok.slot (slots.Kept forms.Octet) c.loop-shape-test.true (rw take_rest at c.in-Ok.ensures.judged),
    )

pub returns-clause-judged : goal.returns-clause-judged
returns-clause-judged c =
    let l = c.loop-shape in
    let shapes = c.args.shapes.now in
    canonical_of_levels (slots_lawful (slots_of shapes) (slots_least shapes c.requires.constants)) c.args.i.now (judgement l.at l.canonical l.tidy)
    (λ k. omega (arith, c.type_inv.i k)) (reached_all slots_walk l.invariant.1 c.loop-shape-test.false)

pub judge_slot-requires : goal.judge_slot-requires
judge_slot-requires c =
    record { constant = constant_at c.args.shapes.now c.loop-shape.shape-index (slots.Kept forms.Octet) c.requires.constants c.loop-shape-test.true }
