-- What calls promise that run from a source to a sink: the clauses that all of them have, and those
-- of writers and of texts.
use Rattle.std.specs.Prelude.{◌≡◌, ℕ, List, Some, Result, Ok, Err}
use Rattle.amqp_types.specs.Levels.{Level}
use Rattle.amqp_wire.specs.Frames.{Frame}
use Rattle.amqp_wire.specs.Canonical.{canon_frames}
use Rattle.amqp_stream.specs.declared.errors.StreamError.{StreamError}
use Rattle.amqp_stream.specs.declared.errors.StreamError.TheVariants as errors
use Rattle.amqp_stream.specs.declared.errors.RunError.{RunError}
use Rattle.amqp_stream.specs.declared.errors.RunError.TheVariants as ends
use Rattle.amqp_stream.specs.Changes.{Change}
use Rattle.amqp_stream.specs.Ends.{Supply, Store}
use Rattle.amqp_stream.specs.Calls.{Call, as_reported}
use Rattle.amqp_stream.specs.Causes.{NeverBegan, IsValid, NoFaults}
use Rattle.amqp_stream.specs.Steps.{Manner}
use Rattle.amqp_stream.specs.Streaming.{StreamsBy, StreamsExactly, IsWelcome}
use Rattle.amqp_stream.specs.Streaming.{plan_of, IsDoneOrWanting, ending_of}
use Rattle.amqp_stream.specs.Transcribing.{Transcribes, TranscribesExactly}
use Rattle.amqp_stream.specs.Canonicalizing.{Canonicalizes}

-- What is claimed of a run: by `Goes` which bytes were taken and written and why it ended, by
-- `IsSpent` that there was no read budget, by `Exactly` what all bytes of a source give, by
-- `Accepts` which bytes are written whole, and by `IsDone` that they were.
pub record Claims : Type 1 where
  pub Goes : Type 0
  pub IsSpent : Type 0
  pub Exactly : List ℕ → Type 0
  pub Accepts : List ℕ → Type 0
  pub IsDone : Type 0

-- What every run over two ends keeps, whatever it writes.
pub record Runs {S K : Type 0} (supply : S → Supply) (store : K → Store)
    (call : Call S K) (claims : Claims) : Type 0 where
  pub stream : claims.Goes
  -- without a read budget neither end is touched, and the result says so
  pub unread : call.budget ≡ 0 → call.source.new ≡ call.source.old
  pub unwritten : call.budget ≡ 0 → call.sink.new ≡ call.sink.old
  pub spent : call.budget ≡ 0 → claims.IsSpent
  -- over a source that reports its bytes, the result depends on them alone, however they are cut
  pub exact : (bytes : List ℕ) → (supply call.source.old).left ≡ Some bytes → claims.Exactly bytes
  -- what is accepted is written whole, unless an end fails
  pub complete : (bytes : List ℕ) → (supply call.source.old).left ≡ Some bytes
      → claims.Accepts bytes → (let ran = as_reported supply store call in
      NoFaults ran.source ran.sink) → claims.IsDone

-- what is claimed of a run of a writer
abbrev pub writer_claims : {T E : Type 0} → Manner T E → Change T
    → Call Supply Store → Result (Unit {0}) (RunError E) → Claims
writer_claims w writer call result = record {
  Goes = StreamsBy w writer call (ending_of result);
  IsSpent = result ≡ Err (ends.Stream errors.TurnsSpent);
  Exactly = λ bytes.
      StreamsExactly (plan_of w writer.old call.limit) call bytes (ending_of result);
  Accepts = λ bytes. IsValid w.level call.limit call.budget bytes
      × IsWelcome (plan_of w writer.old call.limit) bytes;
  IsDone = IsDoneOrWanting (ending_of result);
}

-- a run of a writer
abbrev pub WriterRun : {T E S K : Type 0} → Manner T E → Change T → (S → Supply)
    → (K → Store) → Call S K → Result (Unit {0}) (RunError E) → Type 0
WriterRun w writer supply store call result =
    Runs supply store call (writer_claims w writer (as_reported supply store call) result)

-- such a run that never began: the writer stays, too
abbrev pub NeverRan : {T E S K : Type 0} → Change T → Change S
    → Change K → Result (Unit {0}) (RunError E) → Type 0
NeverRan writer source sink result =
    NeverBegan source sink (ends.Stream errors.NoMemory) result × (writer.new ≡ writer.old)

-- what is claimed of a run that writes this text for frames
abbrev pub text_claims : (List Frame → List ℕ) → Level → Call Supply Store
    → Result (Unit {0}) StreamError → Type 0 → Claims
text_claims text level call result Goes = record {
  Goes = Goes;
  IsSpent = result ≡ Err errors.TurnsSpent;
  Exactly = λ bytes. TranscribesExactly text level call bytes result;
  Accepts = IsValid level call.limit call.budget;
  IsDone = result ≡ Ok tt;
}

-- a run that writes this text for frames
abbrev pub TextRun : {S K : Type 0} → (List Frame → List ℕ) → Level → (S → Supply)
    → (K → Store) → Call S K → Result (Unit {0}) StreamError → Type 0
TextRun text level supply store call result =
    let ran = as_reported supply store call in
    Runs supply store call (text_claims text level ran result (Transcribes text level ran result))

-- a run that writes canonical bytes
abbrev pub CanonicalRun : {S K : Type 0} → Level → (S → Supply)
    → (K → Store) → Call S K → Result (Unit {0}) StreamError → Type 0
CanonicalRun level supply store call result =
    let ran = as_reported supply store call in
    Runs supply store call
    (text_claims canon_frames level ran result (Canonicalizes level ran result))
