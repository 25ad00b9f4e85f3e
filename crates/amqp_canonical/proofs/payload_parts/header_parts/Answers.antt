-- `header_parts`: clauses `same` and `as_many`.
use Rattle.std.proofs.Common.{length, drop, ap, arith}
use Rattle.std.proofs.lemmas.List.{length-drop}
use Rattle.amqp_types.specs.Numbers.{bytes2, bytes8}
use Rattle.amqp_canonical.proofs.GivenParts.{header_again}
use Rattle.amqp_canonical.proofs.PayloadParts.{number_here}
use Rattle.amqp_canonical.proofs.payload_parts.header_parts.Goals as goal

pub returns-clause-same : goal.returns-clause-same
returns-clause-same c =
    let class = c.short_at-class.ensures (number_here bytes2 c.args.payload.now (omega (arith, c.requires))) in
    let size = rw c.bytes_from-behind.ensures at c.long_long_at-size.ensures in
    let size_here = number_here bytes8 (drop 4 c.args.payload.now) (omega (arith, length-drop 4 c.args.payload.now, c.requires)) in
    rw c.bytes_from-properties.ensures (header_again c.args.payload.now c.short_at-class.result c.long_long_at-size.result
    (λ k. omega (arith, c.type_inv.payload k)) c.requires class (size size_here))

pub returns-clause-as_many : goal.returns-clause-as_many
returns-clause-as_many c = omega (arith, ap length c.bytes_from-properties.ensures, length-drop 12 c.args.payload.now, c.requires)
