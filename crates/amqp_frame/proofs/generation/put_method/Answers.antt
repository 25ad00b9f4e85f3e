-- `put_method`: what it ensures and what calls require.
use Rattle.std.proofs.Common.{arith}
use Rattle.amqp_types.proofs.Puts.{puts-length}
use Rattle.amqp_types.specs.Methods.{payload_bytes}
use Rattle.amqp_protocol.specs.Classes.{method_of}
use Rattle.amqp_wire.proofs.Sizes.{framed_length}
use Rattle.amqp_frame.proofs.generation.put_method.Goals as goal

pub put_around-requires-clause-few : goal.put_around-requires-clause-few
put_around-requires-clause-few c = omega (arith, c.requires.few, c.put_class-end.ensures.behind)

pub put_around-requires-clause-room : goal.put_around-requires-clause-room
put_around-requires-clause-room c =
    let bytes = payload_bytes (method_of c.args.class.now) in
    let size = framed_length 1 c.args.channel_id bytes in
    let same =
    puts-length c.args.buf.now c.put_class-end.new.buf _ c.put_class-end.result bytes (omega (arith, size, c.requires.room)) c.put_class-end.ensures in
    omega (arith, size, same, c.requires.room, c.put_class-end.ensures.behind)

pub returns : goal.returns
returns c = c.put_around.ensures c.args.buf.now (payload_bytes (method_of c.args.class.now)) c.put_class-end.ensures c.requires.room
