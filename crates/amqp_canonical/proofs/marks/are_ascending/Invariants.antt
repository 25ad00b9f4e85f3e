-- `are_ascending`: what loops keep and what falls with each iteration or call.
use Rattle.std.proofs.Common.{◌<◌, ◌≤◌, ◌-◌, ℕ, suc, length, get_or}
use Rattle.amqp_canonical.specs.Marks.{Ascends, blank}
use Rattle.amqp_canonical.proofs.marks.are_ascending.Given as goal

abbrev pub invariant-loop-k : goal.invariant-loop-k
invariant-loop-k l = (1 ≤ l.k) × ((j : ℕ) → suc j < l.k → suc j < length l.marks → Ascends l.content (get_or l.marks j blank) (get_or l.marks (suc j) blank))

abbrev pub decreases-loop-k : goal.decreases-loop-k
decreases-loop-k l = length l.marks - l.k
