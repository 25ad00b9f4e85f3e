-- `push_pieces`: what loops keep and what falls with each iteration or call.
use Rattle.std.proofs.Common.{◌≡◌, ◌++◌, length, map}
use Rattle.amqp_frame.specs.Frames.{Body, frame_of}
use Rattle.amqp_messages.specs.Splits.{pieces}
use Rattle.amqp_messages.proofs.splitting.push_pieces.Given as goal

abbrev pub invariant-loop-rest : goal.invariant-loop-rest
invariant-loop-rest l =
    map frame_of l.frames.items ++ map (λ piece. Body l.channel_id piece) (pieces l.max_payload l.rest)
    ≡ map frame_of l.initial.frames.items ++ map (λ piece. Body l.channel_id piece) (pieces l.max_payload l.bytes)

abbrev pub decreases-loop-rest : goal.decreases-loop-rest
decreases-loop-rest l = length l.rest
