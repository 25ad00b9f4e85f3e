-- the calls of cycle `held`: what loops keep and what falls with each iteration or call.
use Rattle.amqp_types.specs.Values.{weight, values_weight, entries_weight, values_of, entries_of}
use Rattle.amqp_values.specs.Views.{value_of}
use Rattle.amqp_values.proofs.Holding.{LeftValues, LeftEntries}
use Rattle.amqp_values.proofs.held_values.+held.Given as goal

abbrev pub decreases-value_held : goal.decreases-value_held
decreases-value_held l = weight (value_of l.value.now)

abbrev pub decreases-array_held : goal.decreases-array_held
decreases-array_held l = values_weight (values_of l.array.now)

abbrev pub decreases-table_held : goal.decreases-table_held
decreases-table_held l = entries_weight (entries_of l.table.now)

abbrev pub invariant-array_held-loop-value : goal.invariant-array_held-loop-value
invariant-array_held-loop-value l = LeftValues l.value-items l.array l.value-index

abbrev pub invariant-table_held-loop-key : goal.invariant-table_held-loop-key
invariant-table_held-loop-key l = LeftEntries l.key-iterator l.table
