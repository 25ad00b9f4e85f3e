-- `count_set`: what falls with each iteration or call.
use Rattle.std.proofs.Common.{length}
use Rattle.amqp_fields.proofs.counting.+count_set.Given as goal

abbrev pub decreases-count_set : goal.decreases-count_set
decreases-count_set l = length l.shapes.now
