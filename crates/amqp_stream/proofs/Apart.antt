-- Sequences of frames with equal canonical bytes encode the same frames.
use Rattle.amqp_stream.proofs.Names.{ℕ, List, Some, Level, front, SpellsFrames, sequence_front, IsSequence}
use Rattle.amqp_wire.proofs.Strictness.{same_frames}
use Rattle.amqp_stream.specs.Canonicalizing.{EqualOutputIsEqualFrames}

encoded : (level : Level) (m : ℕ) (bytes : List ℕ) → IsSequence level m bytes → SpellsFrames level (Some m) bytes (front level (Some m) bytes)
encoded level m bytes is = rw (sequence_front level (Some m) bytes is.0 is.1) is.1

-- Streams with the same canonical output are the same frames.
pub equal_output : EqualOutputIsEqualFrames
equal_output level m a b one two =
    same_frames level (Some m) a b (front level (Some m) a) (front level (Some m) b) (encoded level m a one) (encoded level m b two)
