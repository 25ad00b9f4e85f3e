-- the calls of cycle `same`: what loops keep and what falls with each iteration or call.
use Rattle.std.proofs.Common.{◌≡◌, ◌≤◌, length, drop, map}
use Rattle.amqp_types.specs.Values.{weight, values_weight, entries_weight, values_of, entries_of}
use Rattle.amqp_values.specs.Views.{value_of}
use Rattle.amqp_values.specs.Sameness.{same_items, same_entries}
use Rattle.amqp_values.proofs.sameness.+same.Given as goal

abbrev pub decreases-is_same_value : goal.decreases-is_same_value
decreases-is_same_value l = weight (value_of l.a.now)

abbrev pub decreases-is_same_array : goal.decreases-is_same_array
decreases-is_same_array l = values_weight (values_of l.a.now)

abbrev pub decreases-is_same_table : goal.decreases-is_same_table
decreases-is_same_table l = entries_weight (entries_of l.a.now)

abbrev pub invariant-is_same_array-loop-i : goal.invariant-is_same_array-loop-i
invariant-is_same_array-loop-i l =
    record {
      mine : map value_of l.mine ≡ l.a;
      theirs : map value_of l.theirs ≡ l.b;
      as_long : length l.mine ≡ length l.theirs;
      left : same_items (values_of (map value_of (drop l.i l.mine))) (values_of (map value_of (drop l.i l.theirs)))
          ≡ same_items (values_of l.a) (values_of l.b);
    }

abbrev pub invariant-is_same_table-loop-key : goal.invariant-is_same_table-loop-key
invariant-is_same_table-loop-key l =
    record {
      smaller : entries_weight (entries_of l.key-iterator) ≤ entries_weight (entries_of l.a);
      left : same_entries (entries_of l.key-iterator) (entries_of l.theirs) ≡ same_entries (entries_of l.a) (entries_of l.b);
    }
