-- `put_payload`: what it ensures and what calls require.
use Rattle.amqp_canonical.specs.Payloads.{canonical_method}
use Rattle.std.proofs.Common.{length, ap, arith}
use Rattle.amqp_canonical.proofs.Putting.{put_in_room, same_put}
use Rattle.amqp_canonical.proofs.PayloadParts.{payload_long}
use Rattle.amqp_canonical.proofs.payload_writing.put_payload.Goals as goal

pub method_parts-class-requires : goal.method_parts-class-requires
method_parts-class-requires c = payload_long c.args.i.now c.requires.read

pub put_method-requires-clause-read : goal.put_method-requires-clause-read
put_method-requires-clause-read c = rw c.method_parts-class.ensures c.requires.read

pub put_method-requires-clause-room : goal.put_method-requires-clause-room
put_method-requires-clause-room c =
    let same = ap (λ bs. length (canonical_method bs)) c.method_parts-class.ensures in
    record { few = omega (arith, same, c.requires.room); room = λ known. omega (arith, same, c.requires.room) }

pub returns : goal.returns
returns c = put_in_room c.requires.room (same_put (ap (λ bs. canonical_method bs) c.method_parts-class.ensures) c.put_method.ensures)
