-- `put_method_frame`: what it ensures and what calls require.
use Rattle.std.proofs.Common.{arith}
use Rattle.amqp_canonical.proofs.Putting.{tested_room}
use Rattle.amqp_wire.proofs.Rewritten.{method_shorter}
use Rattle.amqp_canonical.specs.Payloads.{method_payload}
use Rattle.amqp_canonical.proofs.GivenParts.{method_fits}
use Rattle.amqp_lent.proofs.writing.put_method_frame.Goals as goal

pub put_method-end-requires-clause-room : goal.put_method-end-requires-clause-room
put_method-end-requires-clause-room c =
    let fits = method_fits c.args.class c.args.id c.args.slots.now (λ k. omega (arith, c.type_inv.slots k)) in
    tested_room (omega (arith, method_shorter (method_payload c.args.class c.args.id c.args.slots.now) fits c.requires.read, c.requires.few))

pub put_frame-requires-clause-few : goal.put_frame-requires-clause-few
put_frame-requires-clause-few c =
    let fits = method_fits c.args.class c.args.id c.args.slots.now (λ k. omega (arith, c.type_inv.slots k)) in
    omega (arith, method_shorter (method_payload c.args.class c.args.id c.args.slots.now) fits c.requires.read, c.requires.few, c.put_method-end.ensures.behind)

pub returns : goal.returns
returns c = c.put_frame.ensures _ _ c.put_method-end.ensures
