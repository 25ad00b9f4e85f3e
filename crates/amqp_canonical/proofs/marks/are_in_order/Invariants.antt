-- `are_in_order`: what loops keep and what falls with each iteration or call.
use Rattle.std.proofs.Common.{◌<◌, ◌≤◌, ◌-◌, ℕ, suc, length, get_or}
use Rattle.amqp_canonical.specs.Marks.{Follows, blank}
use Rattle.amqp_canonical.proofs.marks.are_in_order.Given as goal

abbrev pub invariant-loop-k : goal.invariant-loop-k
invariant-loop-k l = (1 ≤ l.k) × ((j : ℕ) → suc j < l.k → suc j < length l.marks → Follows l.content (get_or l.marks j blank) (get_or l.marks (suc j) blank))

abbrev pub decreases-loop-k : goal.decreases-loop-k
decreases-loop-k l = length l.marks - l.k
