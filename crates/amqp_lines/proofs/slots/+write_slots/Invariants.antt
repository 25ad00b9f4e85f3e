-- `write_slots`, which calls itself: what falls with each iteration or call.
use Rattle.amqp_lines.proofs
use proofs.Names.{length}
use proofs.slots.+write_slots.Given as goal

abbrev pub decreases-write_slots : goal.decreases-write_slots
decreases-write_slots l = length l.shapes.now
