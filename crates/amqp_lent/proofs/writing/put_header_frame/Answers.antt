-- `put_header_frame`: what it ensures and what calls require.
use Rattle.std.proofs.Common.{arith}
use Rattle.amqp_canonical.proofs.Putting.{tested_room}
use Rattle.amqp_wire.proofs.Rewritten.{header_shorter}
use Rattle.amqp_canonical.specs.Payloads.{header_payload}
use Rattle.amqp_canonical.proofs.GivenParts.{header_fits}
use Rattle.amqp_lent.proofs.writing.put_header_frame.Goals as goal

pub put_header-end-requires-clause-room : goal.put_header-end-requires-clause-room
put_header-end-requires-clause-room c =
    let fits = header_fits c.args.class c.args.body_size c.args.properties.now (λ k. omega (arith, c.type_inv.properties k)) in
    tested_room (omega (arith, header_shorter (header_payload c.args.class c.args.body_size c.args.properties.now) fits c.requires.read, c.requires.few))

pub put_frame-requires-clause-few : goal.put_frame-requires-clause-few
put_frame-requires-clause-few c =
    let fits = header_fits c.args.class c.args.body_size c.args.properties.now (λ k. omega (arith, c.type_inv.properties k)) in
    omega (
      arith,
      header_shorter (header_payload c.args.class c.args.body_size c.args.properties.now) fits c.requires.read,
      c.requires.few,
      c.put_header-end.ensures.behind,
    )

pub returns : goal.returns
returns c = c.put_frame.ensures _ _ c.put_header-end.ensures
