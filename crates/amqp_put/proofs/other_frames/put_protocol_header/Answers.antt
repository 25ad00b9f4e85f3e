-- `put_protocol_header`: what it returns where there is room.
use Rattle.amqp_put.proofs.OtherFrames.{proto_made}
use Rattle.amqp_put.proofs.other_frames.put_protocol_header.Goals as goal

pub returns : goal.returns
returns c = proto_made c.args.out.now _ _ _ _ _ _ c.header_bytes.ensures c.if-out-lt8.false c.put_bytes.ensures
