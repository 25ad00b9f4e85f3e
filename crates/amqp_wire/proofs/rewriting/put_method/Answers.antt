-- `put_method`: what it ensures and what calls require.
use Rattle.std.proofs.Common.{arith}
use Rattle.amqp_types.specs.Methods.{judge_payload, payload_bytes}
use Rattle.amqp_types.proofs.Puts.{puts-length}
use Rattle.amqp_canonical.specs.Writes.{canonical_of}
use Rattle.amqp_wire.proofs.Rewritten.{method_shorter}
use Rattle.amqp_wire.proofs.Sizes.{framed_length}
use Rattle.amqp_wire.proofs.rewriting.put_method.Goals as goal

pub put_payload-end-requires-clause-room : goal.put_payload-end-requires-clause-room
put_payload-end-requires-clause-room c =
    let shorter = method_shorter c.args.payload.now (λ k. omega (arith, c.type_inv.payload k)) c.requires.read in
    omega (arith, shorter, c.requires.room)

pub put_around-requires-clause-few : goal.put_around-requires-clause-few
put_around-requires-clause-few c =
    let shorter = method_shorter c.args.payload.now (λ k. omega (arith, c.type_inv.payload k)) c.requires.read in
    omega (arith, shorter, c.requires.few, c.put_payload-end.ensures.behind)

pub put_around-requires-clause-room : goal.put_around-requires-clause-room
put_around-requires-clause-room c =
    let shorter = method_shorter c.args.payload.now (λ k. omega (arith, c.type_inv.payload k)) c.requires.read in
    let same =
    puts-length c.args.buf.now c.put_payload-end.new.buf _ c.put_payload-end.result _ (omega (arith, shorter, c.requires.room)) c.put_payload-end.ensures in
    omega (arith, shorter, same, c.requires.room, c.put_payload-end.ensures.behind)

pub returns : goal.returns
returns c =
    let shorter = method_shorter c.args.payload.now (λ k. omega (arith, c.type_inv.payload k)) c.requires.read in
    let bytes = canonical_of payload_bytes (judge_payload c.args.payload.now) in
    c.put_around.ensures c.args.buf.now bytes c.put_payload-end.ensures (omega (arith, framed_length 1 c.args.channel_id bytes, shorter, c.requires.room))
