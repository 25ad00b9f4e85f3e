-- `is_ascending`: the entries in front of what is left are canonical, and the number of the last key's first four bytes is at hand.
use Rattle.std.proofs.Common.{◌+◌, length}
use Rattle.amqp_entries.specs.Ascending.{AscendingTo}
use Rattle.amqp_entries.proofs.ordered.is_ascending.Given as goal

abbrev pub decreases-loop-rest : goal.decreases-loop-rest
decreases-loop-rest l = length l.rest

abbrev pub invariant-loop-rest : goal.invariant-loop-rest
invariant-loop-rest l = AscendingTo l.depth_left l.content l.rest (l.previous + 1)
