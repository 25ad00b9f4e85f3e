-- `put_method`: what it ensures and what calls require.
use Rattle.std.proofs.Common.{rules, ◌≡◌, Some, None, length, refl, sym, ap, ◌∙◌, arith}
use Rattle.amqp_canonical.proofs.Putting.{has_room, same_put, then_put}
use Rattle.amqp_canonical.proofs.GivenParts.{method_parts, method_put}
use Rattle.amqp_canonical.proofs.payload_writing.put_method.Goals as goal

pub put_if_room-id_place-requires : goal.put_if_room-id_place-requires
put_if_room-id_place-requires g c =
    let h = method_parts c.args.class c.args.id c.args.slots.now (omega arith) (omega arith) c.requires.read in
    record { room = has_room (omega (arith, ap length h.bytes_are, ap length c.to_be_bytes.ensures)) refl c.requires.room }

pub put_if_room-place-requires : goal.put_if_room-place-requires
put_if_room-place-requires g c =
    let h = method_parts c.args.class c.args.id c.args.slots.now (omega arith) (omega arith) c.requires.read in
    let same = c.put_if_room-id_place.ensures.same in
    record { room = has_room (omega (arith, ap length h.bytes_are, ap length c.to_be_bytes.ensures, ap length c.to_be_bytes-2.ensures)) same c.requires.room }

pub put_slots-requires : goal.put_slots-requires
put_slots-requires g c =
    let h = method_put c.args.class c.args.id c.args.slots.now _ (omega arith) (omega arith) (sym c.in-Some.ensures.slots) c.requires.read in
    let same = c.put_if_room-place.ensures.same ∙ c.put_if_room-id_place.ensures.same in
    record {
      constants = search rules;
      read = h.0;
      room = has_room (omega (arith, ap length h.1, ap length c.to_be_bytes.ensures, ap length c.to_be_bytes-2.ensures)) same c.requires.room;
    }

pub returns-in-Some : goal.returns-in-Some
returns-in-Some g c =
    let h = method_put c.args.class c.args.id c.args.slots.now _ (omega arith) (omega arith) (sym c.in-Some.ensures.slots) c.requires.read in
    let rest = then_put (same_put c.to_be_bytes-2.ensures c.put_if_room-place.ensures) c.put_slots.ensures in
    same_put (sym h.1) (then_put (same_put c.to_be_bytes.ensures c.put_if_room-id_place.ensures) rest)

pub returns-in-None : goal.returns-in-None
returns-in-None g c =
    let h = method_parts c.args.class c.args.id c.args.slots.now (omega arith) (omega arith) c.requires.read in
    let e : None ≡ Some h.slots = c.in-None.ensures.slots ∙ h.known_slots in
    absurd cc
