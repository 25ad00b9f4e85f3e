-- `list_slots`, which calls itself: what falls with each iteration or call.
use Rattle.std.proofs.Common.{length}
use Rattle.amqp_fields.proofs.fields.+list_slots.Given as goal

abbrev pub decreases-list_slots : goal.decreases-list_slots
decreases-list_slots l = length l.shapes.now
