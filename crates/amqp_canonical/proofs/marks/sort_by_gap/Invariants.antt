-- `sort_by_gap`: what loops keep and what falls with each iteration or call.
use Rattle.std.proofs.Common.{◌-◌, length}
use Rattle.std.specs.List.Sorted.{IsPermutation}
use Rattle.amqp_canonical.proofs.marks.sort_by_gap.Given as goal

abbrev pub invariant-loop-k : goal.invariant-loop-k
invariant-loop-k l = IsPermutation l.fn.marks l.marks

abbrev pub decreases-loop-k : goal.decreases-loop-k
decreases-loop-k l = length l.marks - l.k
