-- `sum_sizes`, which calls itself: what falls with each iteration or call.
use Rattle.std.proofs.Common.{length}
use Rattle.amqp_values.proofs.fields.+sum_sizes.Given as goal

abbrev pub decreases-sum_sizes : goal.decreases-sum_sizes
decreases-sum_sizes l = length l.fields.now
