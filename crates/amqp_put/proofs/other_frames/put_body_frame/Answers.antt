-- `put_body_frame`: what it returns where there is room.
use Rattle.amqp_put.proofs.OtherFrames.{body_made}
use Rattle.amqp_put.proofs.other_frames.put_body_frame.Goals as goal

pub returns : goal.returns
returns c = body_made c.args.out.now _ c.args.payload.now _ c.args.channel _ c.if-size-max_payload.false c.if-out-size.false c.put_framed.ensures
