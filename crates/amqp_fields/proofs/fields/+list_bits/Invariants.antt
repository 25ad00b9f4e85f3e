-- `list_bits`, which calls itself: what falls with each iteration or call.
use Rattle.amqp_fields.proofs.fields.+list_bits.Given as goal

abbrev pub decreases-list_bits : goal.decreases-list_bits
decreases-list_bits l = l.flags
