-- `size_after`, which calls itself: what falls with each iteration or call.
use Rattle.std.proofs.Common.{length}
use Rattle.amqp_values.proofs.fields.+size_after.Given as goal

abbrev pub decreases-size_after : goal.decreases-size_after
decreases-size_after l = length l.fields.now
