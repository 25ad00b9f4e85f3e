-- `put_content_header`: what it ensures and what calls require.
use Rattle.std.proofs.Common.{length, ap, arith}
use Rattle.amqp_types.specs.ContentHeaders.{content_header_bytes}
use Rattle.amqp_canonical.specs.Writes.{canonical_of}
use Rattle.amqp_canonical.proofs.Putting.{put_in_room, same_put}
use Rattle.amqp_canonical.proofs.PayloadParts.{header_put}
use Rattle.amqp_canonical.proofs.payload_writing.put_content_header.Goals as goal

pub header_parts-class-requires : goal.header_parts-class-requires
header_parts-class-requires c = (header_put c.args.i.now c.requires.read).long

pub put_header-requires-clause-read : goal.put_header-requires-clause-read
put_header-requires-clause-read c = rw c.header_parts-class.ensures.same c.requires.read

pub put_header-requires-clause-room : goal.put_header-requires-clause-room
put_header-requires-clause-room c =
    let same = ap (λ j. length (canonical_of content_header_bytes j)) c.header_parts-class.ensures.same in
    record { few = omega (arith, same, c.requires.room); room = λ known. omega (arith, same, c.requires.room) }

pub returns : goal.returns
returns c = put_in_room c.requires.room (same_put (ap (λ j. canonical_of content_header_bytes j) c.header_parts-class.ensures.same) c.put_header.ensures)
