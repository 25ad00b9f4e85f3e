-- `write_set`, which calls itself: what falls with each iteration or call.
use Rattle.amqp_lines.proofs
use proofs.Names.{length}
use proofs.slots.+write_set.Given as goal

abbrev pub decreases-write_set : goal.decreases-write_set
decreases-write_set l = length l.shapes.now
