-- `flags_byte`: what falls with each call of itself.
use Rattle.amqp_fields_write.proofs.parts.+flags_byte.Given as goal

abbrev pub decreases-flags_byte : goal.decreases-flags_byte
decreases-flags_byte l = l.count
