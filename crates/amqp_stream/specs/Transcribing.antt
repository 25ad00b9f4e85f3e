-- A run that writes a text for the frames of a stream: it refuses none, may end after any of them,
-- and memory never runs out.
use Rattle.std.specs.Prelude.{ℕ, false, List, Some, None, Result}
use Rattle.std.specs.declared.string.ParseError.{Infallible}
use Rattle.amqp_types.specs.Levels.{Level}
use Rattle.amqp_wire.specs.Frames.{Frame}
use Rattle.amqp_wire.specs.Fronts.{front}
use Rattle.amqp_stream.specs.declared.errors.StreamError.{StreamError}
use Rattle.amqp_stream.specs.Ends.{Supply, Store}
use Rattle.amqp_stream.specs.Calls.{Call}
use Rattle.amqp_stream.specs.Streaming.{Ending, ending_of, as_run, Plan, Streams, StreamsExactly}

-- what is written for the frames at the front of some bytes
abbrev pub transcript : (List Frame → List ℕ) → Level → ℕ → List ℕ → List ℕ
transcript text level m bytes = text (front level (Some m) bytes)

-- such a plan
abbrev pub text_plan : {E : Type 0} → (List Frame → List ℕ) → Level → ℕ → Plan E
text_plan text level m = record {
  level = level;
  text = transcript text level m;
  refusal = λ bytes. None;
  end = λ bytes. None;
  wants = λ kind. false;
}

-- the ending of a result of such a run
abbrev pub text_ending : {E : Type 0} → Result (Unit {0}) StreamError → Ending E
text_ending result = ending_of (as_run result)

-- a whole call
abbrev pub Transcribes : (List Frame → List ℕ) → Level
    → Call Supply Store → Result (Unit {0}) StreamError → Type 0
Transcribes text level call result =
    Streams {E = Infallible} (text_plan text level call.limit) call (text_ending result)

-- what it returns over a source that reports its bytes
abbrev pub TranscribesExactly : (List Frame → List ℕ) → Level
    → Call Supply Store → List ℕ → Result (Unit {0}) StreamError → Type 0
TranscribesExactly text level call bytes result =
    StreamsExactly {E = Infallible} (text_plan text level call.limit)
    call bytes (text_ending result)
