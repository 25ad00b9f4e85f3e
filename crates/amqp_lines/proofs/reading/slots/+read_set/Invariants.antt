-- `read_set`, which calls itself: what falls with each iteration or call.
use Rattle.amqp_lines.proofs
use proofs.Names.{length}
use proofs.reading.slots.+read_set.Given as goal

abbrev pub decreases-read_set : goal.decreases-read_set
decreases-read_set l = length l.shapes.now
