-- the calls of cycle `same`: what loops keep and what falls with each iteration or call.
use Rattle.std.proofs.Common.{◌≡◌, ◌↔◌, ◌≤◌, ◌+◌, ◌*◌, option_map, List, ℕ, Bor}
use Rattle.amqp_types.specs.Settling.{settled}
use Rattle.amqp_types.specs.Values.{weight, values_weight, entries_weight, values_of, entries_of}
use Rattle.amqp_canonical.specs.Marks.{entries_in}
use Rattle.amqp_lent.specs.Views.{value_of}
use Rattle.amqp_lent.proofs.Same.{SameTo, ahead}
use Rattle.amqp_lent.proofs.sameness.+same.Given as goal

abbrev pub decreases-is_same_value : goal.decreases-is_same_value
decreases-is_same_value l = 2 * weight (value_of l.a.now)

abbrev pub decreases-is_same_array : goal.decreases-is_same_array
decreases-is_same_array l = 2 * values_weight (values_of l.a.now)

abbrev pub decreases-is_same_table : goal.decreases-is_same_table
decreases-is_same_table l = 2 * entries_weight (entries_of l.a.now) + 1

abbrev pub decreases-are_same_entries : goal.decreases-are_same_entries
decreases-are_same_entries l = 2 * entries_weight (entries_of (settled (entries_in l.a_room l.a.now)))

abbrev pub invariant-is_same_array-loop-item : goal.invariant-is_same_array-loop-item
invariant-is_same_array-loop-item l =
    record {
      smaller : values_weight (values_of l.item-iterator) ≤ values_weight (values_of l.a);
      left : (l.item-iterator ≡ l.theirs) ↔ (l.a ≡ l.b);
    }

abbrev pub invariant-are_same_entries-loop-key : goal.invariant-are_same_entries-loop-key
invariant-are_same_entries-loop-key l = SameTo (entries_in l.a_room l.a) (entries_in l.b_room l.b) (option_map {T = Bor (List ℕ)} (λ k. k.now) l.last)

abbrev pub decreases-are_same_entries-loop-key : goal.decreases-are_same_entries-loop-key
decreases-are_same_entries-loop-key l = ahead (option_map {T = Bor (List ℕ)} (λ k. k.now) l.last) (settled (entries_in l.a_room l.a))
