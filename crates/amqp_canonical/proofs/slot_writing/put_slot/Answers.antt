-- `put_slot`: what it ensures and what calls require.
use Rattle.std.proofs.Common.{length, refl, sym, ap, arith}
use Rattle.amqp_canonical.proofs.Putting.{has_room, same_put}
use Rattle.amqp_canonical.proofs.SlotParts.{constant_slot}
use Rattle.amqp_canonical.proofs.slot_writing.put_slot.Goals as goal

pub put_if_room-requires : goal.put_if_room-requires
put_if_room-requires g c =
    let put = constant_slot c.args.slot c.in-Reserved.field-0 c.in-Reserved.constant c.args.i.now c.in-Reserved.is c.requires.constant c.requires.read in
    record { room = has_room (omega (arith, ap length put)) refl c.requires.room }

pub returns-in-Reserved : goal.returns-in-Reserved
returns-in-Reserved g c =
    let put = constant_slot c.args.slot c.in-Reserved.field-0 c.in-Reserved.constant c.args.i.now c.in-Reserved.is c.requires.constant c.requires.read in
    same_put (sym put) c.put_if_room.ensures
