-- the calls of cycle `held`: what they ensure and what calls require.
use Rattle.std.proofs.Common.{ap, arith}
use Rattle.amqp_types.specs.Values.{weight, values_weight, values_of}
use Rattle.amqp_values.specs.Views.{value_of}
use Rattle.amqp_values.proofs.Parts.{weight_at}
use Rattle.amqp_values.proofs.Holding.{whole_table}
use Rattle.amqp_values.proofs.held_values.+held.Goals as goal

pub value_held-returns-in-FieldTable : goal.value_held-returns-in-FieldTable
value_held-returns-in-FieldTable t c = rw c.in-FieldTable.is (whole_table c.in-FieldTable.table c.table_held.ensures.rising c.table_held.ensures.held)

pub array_held-value_held-requires : goal.array_held-value_held-requires
array_held-value_held-requires t c =
    let xs = c.as_slice-value-items.result.now in
    let small = weight_at xs c.loop-value.value-index c.value-item.result c.loop-value-test.true in
    let here = ap (λ v. weight (value_of v)) c.value-item.is in
    let all = ap (λ vs. values_weight (values_of vs)) c.loop-value.invariant.all in
    (omega (arith, c.decreases, small, here, all), tt)
