-- the calls of cycle `measure`: what loops keep and what falls with each iteration or call.
use Rattle.std.proofs.Common.{◌≡◌, ◌<◌, ◌^◌, drop, map, ◌≤◌}
use Rattle.amqp_types.specs.Values.{weight, values_weight, entries_weight, values_of, entries_of}
use Rattle.amqp_values.specs.Views.{value_of}
use Rattle.amqp_values.proofs.Walk.{values_total, entries_total}
use Rattle.amqp_values.proofs.measuring.+measure.Given as goal

abbrev pub decreases-value_length : goal.decreases-value_length
decreases-value_length l = weight (value_of l.value.now)

abbrev pub decreases-values_length : goal.decreases-values_length
decreases-values_length l = values_weight (values_of l.array.now)

abbrev pub decreases-entries_length : goal.decreases-entries_length
decreases-entries_length l = entries_weight (entries_of l.table.now)

abbrev pub invariant-values_length-loop-value : goal.invariant-values_length-loop-value
invariant-values_length-loop-value l =
    record {
      all : map value_of l.value-items ≡ l.array;
      few : l.n < 2 ^ 32;
      left : values_total l.depth_left l.n (map value_of (drop l.value-index l.value-items)) ≡ values_total l.depth_left 0 l.array;
    }

abbrev pub invariant-entries_length-loop-key : goal.invariant-entries_length-loop-key
invariant-entries_length-loop-key l =
    record {
      few : l.n < 2 ^ 32;
      left : entries_total l.depth_left l.n l.key-iterator ≡ entries_total l.depth_left 0 l.table;
      smaller : entries_weight (entries_of l.key-iterator) ≤ entries_weight (entries_of l.table);
    }
