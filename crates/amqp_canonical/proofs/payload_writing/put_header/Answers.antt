-- `put_header`: what it ensures and what calls require.
use Rattle.std.proofs.Common.{◌∙◌, length, refl, sym, ap, arith}
use Rattle.amqp_canonical.proofs.Putting.{has_room, same_put, then_put}
use Rattle.amqp_canonical.proofs.GivenParts.{header_parts}
use Rattle.amqp_canonical.proofs.payload_writing.put_header.Goals as goal

pub put_if_room-weight_place-requires : goal.put_if_room-weight_place-requires
put_if_room-weight_place-requires g c =
    let h = header_parts c.args.class c.args.body_size c.args.properties.now (omega arith) (omega arith) c.requires.read in
    record { room = has_room (omega (arith, ap length h.1, ap length c.to_be_bytes.ensures)) refl c.requires.room }

pub put_if_room-size_place-requires : goal.put_if_room-size_place-requires
put_if_room-size_place-requires g c =
    let h = header_parts c.args.class c.args.body_size c.args.properties.now (omega arith) (omega arith) c.requires.read in
    record { room = has_room (omega (arith, ap length h.1, ap length c.to_be_bytes.ensures)) c.put_if_room-weight_place.ensures.same c.requires.room }

pub put_if_room-place-requires : goal.put_if_room-place-requires
put_if_room-place-requires g c =
    let h = header_parts c.args.class c.args.body_size c.args.properties.now (omega arith) (omega arith) c.requires.read in
    let same = c.put_if_room-size_place.ensures.same ∙ c.put_if_room-weight_place.ensures.same in
    record { room = has_room (omega (arith, ap length h.1, ap length c.to_be_bytes.ensures, ap length c.to_be_bytes-2.ensures)) same c.requires.room }

pub put_properties-requires : goal.put_properties-requires
put_properties-requires g c =
    let h = header_parts c.args.class c.args.body_size c.args.properties.now (omega arith) (omega arith) c.requires.read in
    let same = c.put_if_room-place.ensures.same ∙ c.put_if_room-size_place.ensures.same ∙ c.put_if_room-weight_place.ensures.same in
    record {
      read = h.0;
      room = has_room (omega (arith, ap length h.1, ap length c.to_be_bytes.ensures, ap length c.to_be_bytes-2.ensures)) same c.requires.room;
    }

pub returns : goal.returns
returns g c =
    let h = header_parts c.args.class c.args.body_size c.args.properties.now (omega arith) (omega arith) c.requires.read in
    let rest = then_put c.put_if_room-size_place.ensures (then_put (same_put c.to_be_bytes-2.ensures c.put_if_room-place.ensures) c.put_properties.ensures) in
    same_put (sym h.1) (then_put (same_put c.to_be_bytes.ensures c.put_if_room-weight_place.ensures) rest)
