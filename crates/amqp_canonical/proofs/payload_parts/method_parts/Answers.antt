-- `method_parts`: what it ensures.
use Rattle.std.proofs.Common.{drop, arith}
use Rattle.std.proofs.lemmas.List.{length-drop}
use Rattle.amqp_types.specs.Numbers.{bytes2}
use Rattle.amqp_canonical.proofs.GivenParts.{method_again}
use Rattle.amqp_canonical.proofs.PayloadParts.{number_here}
use Rattle.amqp_canonical.proofs.payload_parts.method_parts.Goals as goal

pub returns : goal.returns
returns c =
    let payload = c.args.payload.now in
    let class = c.short_at-class.ensures (number_here bytes2 payload (omega (arith, c.requires))) in
    let id = rw c.bytes_from-behind.ensures at c.short_at-id.ensures in
    let id_here = number_here bytes2 (drop 2 payload) (omega (arith, length-drop 2 payload, c.requires)) in
    rw c.bytes_from-slots.ensures
    (method_again payload c.short_at-class.result c.short_at-id.result (λ k. omega (arith, c.type_inv.payload k)) class (id id_here))
