-- `counted`: fewer classes are left.
use Rattle.std.proofs.Common.{length}
use Rattle.amqp_names.proofs.methods.+counted.Given as goal

abbrev pub decreases-counted : goal.decreases-counted
decreases-counted l = length l.classes.now
