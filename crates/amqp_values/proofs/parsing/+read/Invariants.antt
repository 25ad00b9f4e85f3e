-- the calls of cycle `read`: what loops keep and what falls with each iteration or call.
use Rattle.std.proofs.Common.{◌≡◌, ◌+◌, ◌-◌, ◌*◌, ◌≤◌, length, drop, map}
use Rattle.amqp_types.specs.ValueJudging.{judge_value, filled, judge_entry, read_map}
use Rattle.amqp_types.specs.Settling.{settled, settled_on}
use Rattle.amqp_values.specs.Views.{entry_of}
use Rattle.amqp_laws.proofs.Filling.{after}
use Rattle.amqp_values.proofs.parsing.+read.Given as goal

abbrev pub decreases-behind_tag_within : goal.decreases-behind_tag_within
decreases-behind_tag_within l = 6 * l.depth_left

abbrev pub decreases-value_within : goal.decreases-value_within
decreases-value_within l = 6 * l.depth_left + 1

abbrev pub decreases-entry_within : goal.decreases-entry_within
decreases-entry_within l = 6 * l.depth_left + 2

abbrev pub decreases-values_in : goal.decreases-values_in
decreases-values_in l = 6 * l.depth_left + 3

abbrev pub decreases-entries_in : goal.decreases-entries_in
decreases-entries_in l = 6 * l.depth_left + 4

abbrev pub decreases-few_entries_in : goal.decreases-few_entries_in
decreases-few_entries_in l = 6 * l.depth_left + 3

abbrev pub decreases-many_entries_in : goal.decreases-many_entries_in
decreases-many_entries_in l = 6 * l.depth_left + 3

abbrev pub decreases-array_within : goal.decreases-array_within
decreases-array_within l = 6 * l.depth_left + 5

abbrev pub decreases-table_within : goal.decreases-table_within
decreases-table_within l = 6 * l.depth_left + 5

abbrev pub decreases-values_in-loop-at : goal.decreases-values_in-loop-at
decreases-values_in-loop-at l = length l.content - l.at

abbrev pub decreases-few_entries_in-loop-at : goal.decreases-few_entries_in-loop-at
decreases-few_entries_in-loop-at l = length l.content - l.at

abbrev pub invariant-values_in-loop-at : goal.invariant-values_in-loop-at
invariant-values_in-loop-at l =
    (l.at ≤ length l.content) × (after l.array (filled (judge_value l.depth_left) 0 (drop l.at l.content)) ≡ filled (judge_value l.depth_left) 0 l.content)

abbrev pub invariant-few_entries_in-loop-at : goal.invariant-few_entries_in-loop-at
invariant-few_entries_in-loop-at l =
    (l.at ≤ length l.content)
    × (read_map (settled_on l.table) (filled (judge_entry (judge_value l.depth_left)) 0 (drop l.at l.content))
    ≡ read_map settled (filled (judge_entry (judge_value l.depth_left)) 0 l.content))

abbrev pub decreases-many_entries_in-loop-at : goal.decreases-many_entries_in-loop-at
decreases-many_entries_in-loop-at l = length l.content - l.at

abbrev pub invariant-many_entries_in-loop-at : goal.invariant-many_entries_in-loop-at
invariant-many_entries_in-loop-at l =
    (l.at ≤ length l.content)
    × (after (map entry_of l.entries.items) (filled (judge_entry (judge_value l.depth_left)) 0 (drop l.at l.content))
    ≡ filled (judge_entry (judge_value l.depth_left)) 0 l.content)
