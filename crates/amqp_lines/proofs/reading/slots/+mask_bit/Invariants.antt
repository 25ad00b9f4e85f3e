-- `mask_bit`, which calls itself: what falls with each iteration or call.
use Rattle.amqp_lines.proofs.reading.slots.+mask_bit.Given as goal

abbrev pub decreases-mask_bit : goal.decreases-mask_bit
decreases-mask_bit l = l.bit
