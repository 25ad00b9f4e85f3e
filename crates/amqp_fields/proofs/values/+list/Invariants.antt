-- the calls of cycle `list`: what loops keep and what falls with each iteration or call.
use Rattle.std.proofs.Common.{◌+◌, ◌*◌, ◌≤◌, length}
use Rattle.amqp_fields.proofs.Names.{blank, listed_entry, listed_value}
use Rattle.amqp_fields.proofs.Stepping.{GoesOn}
use Rattle.amqp_fields.proofs.values.+list.Given as goal

abbrev pub decreases-list_after_tag : goal.decreases-list_after_tag
decreases-list_after_tag l = 3 * l.depth_left

abbrev pub decreases-list_values : goal.decreases-list_values
decreases-list_values l = 3 * l.depth_left + 1

abbrev pub decreases-list_entries : goal.decreases-list_entries
decreases-list_entries l = 3 * l.depth_left + 1

abbrev pub decreases-list_array : goal.decreases-list_array
decreases-list_array l = 3 * l.depth_left + 2

abbrev pub decreases-list_table : goal.decreases-list_table
decreases-list_table l = 3 * l.depth_left + 2

abbrev pub decreases-list_values-loop-rest : goal.decreases-list_values-loop-rest
decreases-list_values-loop-rest l = length l.rest

abbrev pub decreases-list_entries-loop-rest : goal.decreases-list_entries-loop-rest
decreases-list_entries-loop-rest l = length l.rest

abbrev pub invariant-list_values-loop-rest : goal.invariant-list_values-loop-rest
invariant-list_values-loop-rest l =
    GoesOn (listed_value l.depth_left l.end blank) l.content l.fn.nodes l.fn.count l.rest l.nodes l.now l.items × (l.items + length l.rest ≤ length l.content)

abbrev pub invariant-list_entries-loop-rest : goal.invariant-list_entries-loop-rest
invariant-list_entries-loop-rest l =
    GoesOn (listed_entry (listed_value l.depth_left) l.end) l.content l.fn.nodes l.fn.count l.rest l.nodes l.now l.items
    × (l.items + length l.rest ≤ length l.content)
