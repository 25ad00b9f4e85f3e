-- What dumping a stream does, as a run of a script: the line of each frame, whatever it is.
use Rattle.std.specs.Prelude.{◌≡◌, ℕ, true, false, List, None, Result, Ok, Err, IfErr}
use Rattle.std.specs.declared.string.ParseError.{Infallible}
use Rattle.amqp_types.specs.Levels.{plain}
use Rattle.amqp_wire.specs.Frames.{Frame}
use Rattle.amqp_stream.specs.declared.errors.StreamError.{StreamError}
use Rattle.amqp_stream.specs.declared.errors.StreamError.TheVariants as errors
use Rattle.amqp_stream.specs.declared.report.RunReport.{RunReport}
use Rattle.amqp_stream.specs.Errors.{cause_of}
use Rattle.amqp_stream.specs.Changes.{Change}
use Rattle.amqp_stream.specs.Calls.{Call, as_reported}
use Rattle.amqp_stream.specs.Ends.{Supply, Store}
use Rattle.amqp_stream.specs.Steps.{Manner, text, refused}
use Rattle.amqp_stream.specs.Streaming.{stopped_by, plan_of, Streams, StreamsExactly}
use Rattle.amqp_stream.specs.Streaming.{as_run, ending_of}
use Rattle.amqp_stream.specs.Causes.{IsValid, IsOkOrNoMemory}
use Rattle.amqp_stream.specs.Transcribing.{transcript}
use Rattle.amqp_stream.specs.Runs.{Claims, Runs}
use Rattle.amqp_stream.specs.Reports.{EndsAt, IsRestBy, unreported}
use Rattle.amqp_lines.specs.Lines.{line, lines}

-- The line of each frame by itself, of whatever can be read. No frame is refused, the stream may
-- end anywhere, and memory may run out at any frame.
abbrev pub dumping : Manner (Unit {0}) Infallible
dumping = record {
  level = plain;
  step = λ s f. Ok (line f, s);
  end = λ s. None;
  wants = λ kind. true;
  compact = false;
}

-- the lines of the frames at the front of some bytes
abbrev pub dumped : ℕ → List ℕ → List ℕ
dumped m bytes = transcript lines plain m bytes

-- What the script writes for frames are their lines, one after another, and it refuses none.
pub record WritesLines : Type 0 where
  pub text_is : (frames : List Frame) → text dumping tt frames ≡ lines frames
  pub none_refused : (frames : List Frame) → refused dumping tt frames ≡ None

-- a whole call
abbrev pub Dumps : Call Supply Store → Result (Unit {0}) StreamError → Type 0
Dumps call result = Streams (plan_of dumping tt call.limit) call (ending_of (as_run result))

-- what a call returns over a source that reports its bytes
abbrev pub DumpsExactly : Call Supply Store
    → List ℕ → Result (Unit {0}) StreamError → Type 0
DumpsExactly call bytes result =
    StreamsExactly (plan_of dumping tt call.limit) call bytes (ending_of (as_run result))

-- what is claimed of a run that writes the lines of the frames
abbrev pub dump_claims : Call Supply Store → Result (Unit {0}) StreamError → Claims
dump_claims call result = record {
  Goes = Dumps call result;
  IsSpent = result ≡ Err errors.TurnsSpent;
  Exactly = λ bytes. DumpsExactly call bytes result;
  Accepts = IsValid plain call.limit call.budget;
  IsDone = IsOkOrNoMemory result;
}

-- such a run
abbrev pub DumpRun : {S K : Type 0} → (S → Supply) → (K → Store)
    → Call S K → Result (Unit {0}) StreamError → Type 0
DumpRun supply store call result =
    Runs supply store call (dump_claims (as_reported supply store call) result)

-- its report
abbrev pub IsDumpReport : ℕ → Change Supply → RunReport StreamError → Type 0
IsDumpReport m source report = EndsAt plain m source
    (λ taken sequence rest. IsRestBy dumping tt m taken rest (stopped_by (cause_of report.error)))
    report.place report.channel

-- such a run, with its report
abbrev pub DumpReport : {S K : Type 0} → (S → Supply) → (K → Store)
    → Call S K → Result (Unit {0}) (RunReport StreamError) → Type 0
DumpReport supply store call result =
    DumpRun supply store call (unreported result)
    × IfErr result (IsDumpReport call.limit (as_reported supply store call).source)
