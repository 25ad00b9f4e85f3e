-- `put_framed`: what it ensures and what calls require.
use Rattle.std.proofs.Common.{arith}
use Rattle.amqp_types.proofs.Puts.{puts-length}
use Rattle.amqp_wire.proofs.Sizes.{framed_length}
use Rattle.amqp_wire.proofs.generation.put_framed.Goals as goal

pub put_around-requires-clause-few : goal.put_around-requires-clause-few
put_around-requires-clause-few c = omega (arith, c.requires.short, c.put_bytes-end.ensures.behind)

pub put_around-requires-clause-room : goal.put_around-requires-clause-room
put_around-requires-clause-room c =
    let size = framed_length c.args.frame_type c.args.channel_id c.args.payload.now in
    let same =
    puts-length c.args.buf.now c.put_bytes-end.new.buf _ c.put_bytes-end.result c.args.payload.now
    (omega (arith, size, c.requires.room)) c.put_bytes-end.ensures in
    omega (arith, size, same, c.requires.room, c.put_bytes-end.ensures.behind)

pub returns : goal.returns
returns c = c.put_around.ensures c.args.buf.now c.args.payload.now c.put_bytes-end.ensures c.requires.room
