-- `put_header`: what it ensures and what calls require.
use Rattle.std.proofs.Common.{arith}
use Rattle.amqp_types.specs.ContentHeaders.{judge_content_header, content_header_bytes}
use Rattle.amqp_types.proofs.Puts.{puts-length}
use Rattle.amqp_canonical.specs.Writes.{canonical_of}
use Rattle.amqp_wire.proofs.Rewritten.{header_shorter}
use Rattle.amqp_wire.proofs.Sizes.{framed_length}
use Rattle.amqp_wire.proofs.rewriting.put_header.Goals as goal

pub put_content_header-end-requires-clause-room : goal.put_content_header-end-requires-clause-room
put_content_header-end-requires-clause-room c =
    let shorter = header_shorter c.args.payload.now (λ k. omega (arith, c.type_inv.payload k)) c.requires.read in
    omega (arith, shorter, c.requires.room)

pub put_around-requires-clause-few : goal.put_around-requires-clause-few
put_around-requires-clause-few c =
    let shorter = header_shorter c.args.payload.now (λ k. omega (arith, c.type_inv.payload k)) c.requires.read in
    omega (arith, shorter, c.requires.few, c.put_content_header-end.ensures.behind)

pub put_around-requires-clause-room : goal.put_around-requires-clause-room
put_around-requires-clause-room c =
    let shorter = header_shorter c.args.payload.now (λ k. omega (arith, c.type_inv.payload k)) c.requires.read in
    let same =
    puts-length c.args.buf.now c.put_content_header-end.new.buf _ c.put_content_header-end.result _
    (omega (arith, shorter, c.requires.room)) c.put_content_header-end.ensures in
    omega (arith, shorter, same, c.requires.room, c.put_content_header-end.ensures.behind)

pub returns : goal.returns
returns c =
    let shorter = header_shorter c.args.payload.now (λ k. omega (arith, c.type_inv.payload k)) c.requires.read in
    let bytes = canonical_of content_header_bytes (judge_content_header c.args.payload.now) in
    c.put_around.ensures c.args.buf.now bytes c.put_content_header-end.ensures
    (omega (arith, framed_length 2 c.args.channel_id bytes, shorter, c.requires.room))
