-- the calls of cycle `write`: what loops keep and what falls with each iteration or call.
use Rattle.amqp_canonical.specs.CanonicalValues.{canonical_entries}
use Rattle.std.proofs.Common.{◌+◌, ◌-◌, ◌*◌, ◌≤◌, length}
use Rattle.amqp_canonical.proofs.PutByLoops.{ValuesPut, EntriesPut, SelectedPut}
use Rattle.amqp_canonical.proofs.writing.+write.Given as goal

abbrev pub decreases-put_after_tag : goal.decreases-put_after_tag
decreases-put_after_tag g l = 7 * l.depth_left

abbrev pub decreases-put_value : goal.decreases-put_value
decreases-put_value g l = 7 * l.depth_left + 1

abbrev pub decreases-put_entry : goal.decreases-put_entry
decreases-put_entry g l = 7 * l.depth_left + 2

abbrev pub decreases-put_mark : goal.decreases-put_mark
decreases-put_mark g l = 7 * l.depth_left + 3

abbrev pub decreases-put_values : goal.decreases-put_values
decreases-put_values g l = 7 * l.depth_left + 3

abbrev pub decreases-put_marked : goal.decreases-put_marked
decreases-put_marked g l = 7 * l.depth_left + 4

abbrev pub decreases-put_selected : goal.decreases-put_selected
decreases-put_selected g l = 7 * l.depth_left + 3

abbrev pub decreases-put_entries : goal.decreases-put_entries
decreases-put_entries g l = 7 * l.depth_left + 5

abbrev pub decreases-put_array : goal.decreases-put_array
decreases-put_array g l = 7 * l.depth_left + 4

abbrev pub decreases-put_table : goal.decreases-put_table
decreases-put_table g l = 7 * l.depth_left + 6

abbrev pub decreases-put_values-loop-start : goal.decreases-put_values-loop-start
decreases-put_values-loop-start g l = length l.content - l.start

abbrev pub decreases-put_marked-loop-k : goal.decreases-put_marked-loop-k
decreases-put_marked-loop-k g l = length l.marks - l.k

abbrev pub decreases-put_selected-loop-next : goal.decreases-put_selected-loop-next
decreases-put_selected-loop-next g l = l.at + length (canonical_entries l.depth_left l.content) - l.end

abbrev pub invariant-put_values-loop-start : goal.invariant-put_values-loop-start
invariant-put_values-loop-start g l = ValuesPut l.depth_left l.content l.start l.fn.buf l.buf l.at l.end

abbrev pub invariant-put_marked-loop-k : goal.invariant-put_marked-loop-k
invariant-put_marked-loop-k g l = (l.k ≤ length l.marks) × EntriesPut l.depth_left l.content l.marks l.k l.fn.buf l.buf l.at l.end

abbrev pub invariant-put_selected-loop-next : goal.invariant-put_selected-loop-next
invariant-put_selected-loop-next g l = SelectedPut l.depth_left l.content l.next l.fn.buf l.buf l.at l.end
