-- `count_slots`: what falls with each iteration or call.
use Rattle.std.proofs.Common.{length}
use Rattle.amqp_fields.proofs.counting.+count_slots.Given as goal

abbrev pub decreases-count_slots : goal.decreases-count_slots
decreases-count_slots l = length l.shapes.now
