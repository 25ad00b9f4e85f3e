-- the calls of cycle `judge`: what loops keep and what falls with each iteration or call.
use Rattle.std.proofs.Common.{◌≡◌, ◌+◌, ◌-◌, ◌*◌, ◌≤◌, ℕ, List, true, length}
use Rattle.amqp_canonical.specs.Leads.{leading}
use Rattle.amqp_canonical.proofs.Children.{ValuesTo, EntriesTo}
use Rattle.amqp_canonical.proofs.values.+judge.Given as goal

abbrev pub decreases-judge_after_tag : goal.decreases-judge_after_tag
decreases-judge_after_tag l = 5 * l.depth_left

abbrev pub decreases-judge_value : goal.decreases-judge_value
decreases-judge_value l = 5 * l.depth_left + 1

abbrev pub decreases-judge_entry : goal.decreases-judge_entry
decreases-judge_entry l = 5 * l.depth_left + 2

abbrev pub decreases-judge_values : goal.decreases-judge_values
decreases-judge_values l = 5 * l.depth_left + 3

abbrev pub decreases-judge_entries : goal.decreases-judge_entries
decreases-judge_entries l = 5 * l.depth_left + 3

abbrev pub decreases-judge_array : goal.decreases-judge_array
decreases-judge_array l = 5 * l.depth_left + 4

abbrev pub decreases-judge_table : goal.decreases-judge_table
decreases-judge_table l = 5 * l.depth_left + 4

abbrev pub decreases-judge_values-loop-at : goal.decreases-judge_values-loop-at
decreases-judge_values-loop-at l = length l.content - l.at

abbrev pub decreases-judge_entries-loop-canonical : goal.decreases-judge_entries-loop-canonical
decreases-judge_entries-loop-canonical l = length l.content - l.at

abbrev pub decreases-judge_entries-loop-at : goal.decreases-judge_entries-loop-at
decreases-judge_entries-loop-at l = length l.content - l.at

abbrev pub invariant-judge_values-loop-at : goal.invariant-judge_values-loop-at
invariant-judge_values-loop-at l = (l.at ≤ length l.content) × ValuesTo l.depth_left l.content l.at l.canonical

abbrev pub invariant-judge_entries-loop-canonical : goal.invariant-judge_entries-loop-canonical
invariant-judge_entries-loop-canonical l =
    (l.at ≤ length l.content) × (EntriesTo l.depth_left l.content l.at l.previous l.canonical × (l.previous_lead ≡ leading 8 l.previous))

-- the key of the last entry is not kept here
abbrev pub invariant-judge_entries-loop-at : goal.invariant-judge_entries-loop-at
invariant-judge_entries-loop-at l =
    (l.at ≤ length l.content) × (l.canonical ≡ true → length l.content ≤ l.at)
    × ((previous : List ℕ) × EntriesTo l.depth_left l.content l.at previous l.canonical)
