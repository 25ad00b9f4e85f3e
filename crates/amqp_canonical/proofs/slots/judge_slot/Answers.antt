-- `judge_slot`: what calls require.
use Rattle.amqp_canonical.proofs.Constants.{two_of}
use Rattle.amqp_canonical.proofs.slots.judge_slot.Goals as goal

pub judge_reserved_short-requires : goal.judge_reserved_short-requires
judge_reserved_short-requires c =
    let r = c.in-Reserved-Short-default in
    record { two = two_of c.args.slot r.field-0 r.constant r.is (rw r.is at r.field-0-is) c.requires.constant }
