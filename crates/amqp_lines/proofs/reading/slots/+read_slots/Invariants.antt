-- `read_slots`, which calls itself: what falls with each iteration or call.
use Rattle.amqp_lines.proofs
use proofs.Names.{length}
use proofs.reading.slots.+read_slots.Given as goal

abbrev pub decreases-read_slots : goal.decreases-read_slots
decreases-read_slots l = length l.shapes.now
