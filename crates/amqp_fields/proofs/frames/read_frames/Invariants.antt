-- `read_frames`: what the loop keeps, and what falls with each iteration.
use Rattle.std.proofs.Common.{length, ◌-◌}
use Rattle.amqp_fields.specs.Frames.{payload_limit}
use Rattle.amqp_fields.proofs.FramesGiven.{Going}
use Rattle.amqp_fields.proofs.frames.read_frames.Given as goal

abbrev pub invariant-loop-used : goal.invariant-loop-used
invariant-loop-used l = Going (payload_limit l.fn.max_payload) l.fn.deep l.reach l.heads l.nodes l.used l.count l.total

abbrev pub decreases-loop-used : goal.decreases-loop-used
decreases-loop-used l = length l.bytes - l.used
