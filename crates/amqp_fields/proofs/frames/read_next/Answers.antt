-- `read_next`: what it ensures.
use Rattle.amqp_wire.specs.Frames.{raw_of}
use Rattle.amqp_fields.specs.Frames.{payload_limit}
use Rattle.amqp_fields.proofs.FramesGiven.{payload_fault}
use Rattle.amqp_fields.proofs.frames.read_next.Goals as goal

pub returns-in-Err : goal.returns-in-Err
returns-in-Err c =
    let refused = c.in-Err.ensures in
    let found = rw c.bytes_from-left.ensures at c.in_ok-layout.ensures in
    let is = rw c.bytes_from-left.ensures at c.frame_at-raw.ensures.frame in (
      payload_fault (payload_limit c.args.max_payload) _ c.in_ok-layout.layout (raw_of c.frame_at-raw.result) c.in-Err.error found is refused.0 refused.1,
      refused.2,
    )
