-- `move_down`: what loops keep and what falls with each iteration or call.
use Rattle.std.proofs.Common.{◌≡◌, ◌<◌, length}
use Rattle.std.specs.List.Sorted.{IsPermutation}
use Rattle.amqp_canonical.proofs.marks.move_down.Given as goal

abbrev pub invariant-loop-k : goal.invariant-loop-k
invariant-loop-k l = (length l.marks ≡ length l.fn.marks) × (l.k < length l.marks) × IsPermutation l.fn.marks l.marks

abbrev pub decreases-loop-k : goal.decreases-loop-k
decreases-loop-k l = l.k
