-- `put_properties`: what it ensures and what calls require.
use Rattle.std.proofs.Common.{length, refl, sym, ap, arith}
use Rattle.amqp_types.specs.Properties.{properties}
use Rattle.amqp_types.specs.PropertyJudging.{judge_set}
use Rattle.amqp_types.specs.PropertyBytes.{set_bytes}
use Rattle.amqp_canonical.specs.Writes.{canonical_of}
use Rattle.amqp_canonical.proofs.PayloadParts.{properties_put}
use Rattle.amqp_canonical.proofs.Putting.{has_room, same_put, then_put}
use Rattle.amqp_canonical.proofs.payload_writing.put_properties.Goals as goal

pub put_if_room-place-requires : goal.put_if_room-place-requires
put_if_room-place-requires g c =
    let h = properties_put c.args.i.now c.short_at-mask.result (λ k. omega (arith, c.type_inv.i k)) c.requires.read c.short_at-mask.ensures in
    record { room = has_room (omega (arith, ap length h.bytes_are, ap length c.to_be_bytes.ensures)) refl c.requires.room }

pub put_set-requires : goal.put_set-requires
put_set-requires g c =
    let h = properties_put c.args.i.now c.short_at-mask.result (λ k. omega (arith, c.type_inv.i k)) c.requires.read c.short_at-mask.ensures in
    let same = ap (λ bs. length (canonical_of (set_bytes properties) (judge_set c.short_at-mask.result properties bs))) c.bytes_from.ensures in
    record {
      read = rw c.bytes_from.ensures h.read;
      room = has_room (omega (arith, ap length h.bytes_are, ap length c.to_be_bytes.ensures, same)) c.put_if_room-place.ensures.same c.requires.room;
    }

pub returns : goal.returns
returns g c =
    let h = properties_put c.args.i.now c.short_at-mask.result (λ k. omega (arith, c.type_inv.i k)) c.requires.read c.short_at-mask.ensures in
    let same = ap (λ bs. canonical_of (set_bytes properties) (judge_set c.short_at-mask.result properties bs)) c.bytes_from.ensures in
    same_put (sym h.bytes_are) (then_put (same_put c.to_be_bytes.ensures c.put_if_room-place.ensures) (same_put same c.put_set.ensures))
