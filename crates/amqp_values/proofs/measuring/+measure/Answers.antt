-- the calls of cycle `measure`: what they ensure and what calls require.
use Rattle.std.proofs.Common.{arith, sym, ap, ◌∙◌, map}
use Rattle.std.proofs.lemmas.Grind.{common_steps}
use Rattle.std.proofs.lemmas.List.{at_drop_all}
use Rattle.amqp_types.specs.Values.{weight, values_weight, values_of}
use Rattle.amqp_values.specs.Views.{value_of}
use Rattle.amqp_values.proofs.Parts.{weight_at}
use Rattle.amqp_values.proofs.Walk.{values_total, entries_total, at_place, values_counted, entries_counted}
use Rattle.amqp_values.proofs.measuring.+measure.Goals as goal

pub values_length-value_length-requires : goal.values_length-value_length-requires
values_length-value_length-requires t c =
    let xs = c.as_slice-value-items.result.now in
    let small = weight_at xs c.loop-value.value-index c.value-item.result c.loop-value-test.true in
    let here = ap (λ v. weight (value_of v)) c.value-item.is in
    let all = ap (λ vs. values_weight (values_of vs)) c.loop-value.invariant.all in
    (omega (arith, c.decreases, small, here, all), tt)

pub values_length-returns-then-n-ge-LENGTH_LIMIT-clause-count : goal.values_length-returns-then-n-ge-LENGTH_LIMIT-clause-count
values_length-returns-then-n-ge-LENGTH_LIMIT-clause-count t c =
    let turn = at_place (values_total c.args.depth_left c.loop-value.n) _ _ _ c.loop-value-test.true c.value-item.is in
    grind (arith, common_steps, values_counted)

pub values_length-returns-clause-count : goal.values_length-returns-clause-count
values_length-returns-clause-count t c =
    let l = c.loop-value in
    sym (at_drop_all (λ ys. values_total c.args.depth_left l.n (map value_of ys)) c.as_slice-value-items.result.now l.value-index c.loop-value-test.false)
    ∙ l.invariant.left ∙ values_counted c.args.depth_left c.args.array.now

pub entries_length-returns-then-n-ge-LENGTH_LIMIT-clause-count : goal.entries_length-returns-then-n-ge-LENGTH_LIMIT-clause-count
entries_length-returns-then-n-ge-LENGTH_LIMIT-clause-count t c =
    let turn = ap (entries_total c.args.depth_left c.loop-key.n) c.in-Some.ensures.steps in
    grind (arith, common_steps, entries_counted)
