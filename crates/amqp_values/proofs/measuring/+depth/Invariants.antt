-- the calls of cycle `depth`: what loops keep and what falls with each iteration or call.
use Rattle.std.proofs.Common.{◌≡◌, ◌+◌, ◌*◌, nat_le, drop, map}
use Rattle.amqp_types.specs.Values.{values_depth, entries_depth, values_of, entries_of}
use Rattle.amqp_values.specs.Views.{value_of}
use Rattle.amqp_values.proofs.measuring.+depth.Given as goal

abbrev pub decreases-has_room : goal.decreases-has_room
decreases-has_room l = 2 * l.depth_left

abbrev pub decreases-array_has_room : goal.decreases-array_has_room
decreases-array_has_room l = 2 * l.depth_left + 1

abbrev pub decreases-table_has_room : goal.decreases-table_has_room
decreases-table_has_room l = 2 * l.depth_left + 1

-- what is left decides
abbrev pub invariant-array_has_room-loop-value : goal.invariant-array_has_room-loop-value
invariant-array_has_room-loop-value l =
    (map value_of l.value-items ≡ l.array)
    × (nat_le (values_depth (values_of (map value_of (drop l.value-index l.value-items)))) l.depth_left
    ≡ nat_le (values_depth (values_of l.array)) l.depth_left)

abbrev pub invariant-table_has_room-loop-value : goal.invariant-table_has_room-loop-value
invariant-table_has_room-loop-value l =
    nat_le (entries_depth (entries_of l.value-iterator)) l.depth_left ≡ nat_le (entries_depth (entries_of l.table)) l.depth_left
