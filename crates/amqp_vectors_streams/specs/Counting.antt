-- A writer that counts: the canonical bytes of each frame, and one frame more in its state.
use Rattle.std.specs.Prelude.{true, false, ◌+◌, min, None, Ok}
use Rattle.std.specs.declared.string.ParseError.{Infallible}
use Rattle.amqp_types.specs.Levels.{plain}
use Rattle.amqp_wire.specs.Canonical.{canon}
use Rattle.amqp_stream.specs.Ends.{last}
use Rattle.amqp_stream.specs.Steps.{Manner}
use Rattle.amqp_vectors_streams.specs.declared.counting.Counting.{Counting}

-- the state after one frame more; the count stays at its last value
abbrev pub one_more : Counting → Counting
one_more s = record s { frames = min (s.frames + 1) last }

-- it refuses nothing, may end anywhere, and takes no memory
abbrev pub counting : Manner Counting Infallible
counting = record {
  level = plain;
  step = λ s f. Ok (canon f, one_more s);
  end = λ s. None;
  wants = λ kind. false;
  compact = true;
}
