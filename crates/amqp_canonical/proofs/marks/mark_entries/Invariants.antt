-- `mark_entries`: what loops keep and what falls with each iteration or call.
use Rattle.std.proofs.Common.{◌≡◌, ◌≤◌, ◌-◌, ℕ, length, take}
use Rattle.std.specs.Prelude.{All}
use Rattle.amqp_canonical.specs.Marks.{AreEntries, IsMarkOf}
use Rattle.amqp_canonical.proofs.Marking.{MarkedTo}
use Rattle.amqp_canonical.proofs.marks.mark_entries.Given as goal

abbrev pub invariant-loop-at : goal.invariant-loop-at
invariant-loop-at l =
    (length l.marks ≡ length l.fn.marks) × (l.count ≤ length l.marks) × All (IsMarkOf l.content) (take l.count l.marks)
    × ((room : ℕ) → AreEntries room l.content → MarkedTo room l.content l.at (take l.count l.marks))

abbrev pub decreases-loop-at : goal.decreases-loop-at
decreases-loop-at l = length l.content - l.at
