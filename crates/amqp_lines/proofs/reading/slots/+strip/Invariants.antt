-- `strip`, which calls itself: what falls with each iteration or call.
use Rattle.amqp_lines.proofs
use proofs.Names.{length}
use proofs.reading.slots.+strip.Given as goal

abbrev pub decreases-strip : goal.decreases-strip
decreases-strip l = length l.front.now
