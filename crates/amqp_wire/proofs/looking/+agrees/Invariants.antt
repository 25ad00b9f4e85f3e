-- `agrees`, which calls itself: what falls with each iteration or call.
use Rattle.std.proofs.Common.{length}
use Rattle.amqp_wire.proofs.looking.+agrees.Given as goal

abbrev pub decreases-agrees : goal.decreases-agrees
decreases-agrees l = length l.bytes.now
