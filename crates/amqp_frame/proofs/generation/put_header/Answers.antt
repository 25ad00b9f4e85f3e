-- `put_header`: what it ensures and what calls require.
use Rattle.std.proofs.Common.{arith}
use Rattle.amqp_types.proofs.Puts.{puts-length}
use Rattle.amqp_types.specs.ContentHeaders.{content_header_bytes}
use Rattle.amqp_frame.specs.Frames.{header_of}
use Rattle.amqp_wire.proofs.Sizes.{framed_length}
use Rattle.amqp_frame.proofs.generation.put_header.Goals as goal

pub put_around-requires-clause-few : goal.put_around-requires-clause-few
put_around-requires-clause-few c = omega (arith, c.requires.few, c.put_content_header-end.ensures.behind)

pub put_around-requires-clause-room : goal.put_around-requires-clause-room
put_around-requires-clause-room c =
    let bytes = content_header_bytes (header_of c.args.header.now) in
    let size = framed_length 2 c.args.channel_id bytes in
    let same =
    puts-length c.args.buf.now c.put_content_header-end.new.buf _ c.put_content_header-end.result bytes
    (omega (arith, size, c.requires.room)) c.put_content_header-end.ensures in
    omega (arith, size, same, c.requires.room, c.put_content_header-end.ensures.behind)

pub returns : goal.returns
returns c = c.put_around.ensures c.args.buf.now (content_header_bytes (header_of c.args.header.now)) c.put_content_header-end.ensures c.requires.room
