-- `put_method_frame`: what it returns once the fields are measured.
use Rattle.std.proofs.Common.{refl, length}
use Rattle.amqp_put.proofs.Making.{payload_length, too_large, no_room, frame_made}
use Rattle.amqp_put.proofs.frames.put_method_frame.Goals as goal

pub returns-then-size-max_payload : goal.returns-then-size-max_payload
returns-then-size-max_payload g c = (
  too_large _ _ _ _ _ (length c.args.out.now) c.in_ok-size.ensures.size
      (payload_length c.args.class c.args.id _ _ _ c.requires.slots (g.met.M.ToSlots.spells c.args.fields.now)) c.if-size-max_payload.true,
  refl,
)

pub returns-then-out-size : goal.returns-then-out-size
returns-then-out-size g c = (
  no_room _ _ _ _ _ _ c.in_ok-size.ensures.size (payload_length c.args.class c.args.id _ _ _ c.requires.slots (g.met.M.ToSlots.spells c.args.fields.now))
      c.if-size-max_payload.false c.if-out-size.true,
  refl,
)

pub returns : goal.returns
returns g c =
    frame_made c.args.out.now _ _ _ c.put_around.new.buf _ _ _ _ c.args.channel c.args.class c.args.id _ _ _ _ _ _ c.in_ok-size.ensures.size c.requires.slots
    (g.met.M.ToSlots.spells c.args.fields.now) c.if-size-max_payload.false c.if-out-size.false c.put_short_uint-id_place.ensures c.put_short_uint-place.ensures
    c.put-end.ensures c.put_around.ensures
