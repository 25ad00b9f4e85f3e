-- `list_bits`, which calls itself: what they ensure.
use Rattle.std.proofs.Common.{arith}
use Rattle.amqp_fields.proofs.SlotSteps.{bits_more}
use Rattle.amqp_fields.proofs.fields.+list_bits.Goals as goal

pub returns : goal.returns
returns t c =
    bits_more _ _ _ _ _ _ _ _ _ _ _ _ (grind arith) c.bit.ensures c.further.ensures (omega arith) c.push-more.ensures c.list_bits.ensures
