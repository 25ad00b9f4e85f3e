-- What canonicalizing a stream does.
use Rattle.std.specs.Prelude.{◌≡◌, ◌↔◌, ℕ, ◌≤◌, List, length, Some, Result}
use Rattle.amqp_types.specs.Levels.{Level}
use Rattle.amqp_wire.specs.Canonical.{canon_frames}
use Rattle.amqp_wire.specs.Fronts.{front}
use Rattle.amqp_stream.specs.declared.errors.StreamError.{StreamError}
use Rattle.amqp_stream.specs.Ends.{Supply, Store}
use Rattle.amqp_stream.specs.Calls.{Call}
use Rattle.amqp_stream.specs.Causes.{IsSequence}
use Rattle.amqp_stream.specs.Transcribing.{Transcribes, TranscribesExactly}

-- the canonical bytes of the sequence of frames at the front of some bytes
abbrev pub canon_of : Level → ℕ → List ℕ → List ℕ
canon_of level m bytes = canon_frames (front level (Some m) bytes)

-- a whole call, which writes the canonical bytes of the frames
pub record Canonicalizes (level : Level) (call : Call Supply Store)
    (result : Result (Unit {0}) StreamError) : Type 0 where
  pub run : Transcribes canon_frames level call result
  pub no_longer : length run.written ≤ length run.taken

-- what it returns and writes over a source that reports its bytes
abbrev pub AnswersExactly : Level → Call Supply Store
    → List ℕ → Result (Unit {0}) StreamError → Type 0
AnswersExactly level call bytes result = TranscribesExactly canon_frames level call bytes result

-- What is written for two sequences of frames is equal exactly where they encode the same frames.
abbrev pub EqualOutputIsEqualFrames : Type 0
EqualOutputIsEqualFrames =
    (level : Level) (m : ℕ) (a b : List ℕ) → IsSequence level m a → IsSequence level m b
    → (canon_of level m a ≡ canon_of level m b) ↔ (front level (Some m) a ≡ front level (Some m) b)
