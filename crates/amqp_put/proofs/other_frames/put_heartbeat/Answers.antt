-- `put_heartbeat`: what it returns where there is room.
use Rattle.amqp_put.proofs.OtherFrames.{beat_made}
use Rattle.amqp_put.proofs.other_frames.put_heartbeat.Goals as goal

pub returns : goal.returns
returns c = beat_made c.args.out.now _ _ _ c.heartbeat_bytes.ensures c.if-out-lt8.false c.put_bytes.ensures
