-- Reports of runs whose frames have to be in turn: where they ended.
use Rattle.std.specs.Prelude.{◌≡◌, ℕ, ◌≤◌, Bool, IsTrue, List, [], Option, Some, None}
use Rattle.std.specs.Prelude.{Result, Ok, Err, IfErr}
use Rattle.amqp_types.specs.Levels.{plain}
use Rattle.amqp_wire.specs.declared.frame_type.AMQPFrameType.{AMQPFrameType}
use Rattle.amqp_wire.specs.Frames.{Frame}
use Rattle.amqp_wire.specs.Fronts.{place}
use Rattle.amqp_wire.specs.HeaderScan.{BeginsWith}
use Rattle.amqp_stream.specs.declared.errors.RunError.{RunError}
use Rattle.amqp_stream.specs.declared.errors.RunError.TheVariants as runs
use Rattle.amqp_stream.specs.declared.report.RunReport.{RunReport}
use Rattle.amqp_stream.specs.Errors.{Cause, write_failed, out_of_memory, cause_of}
use Rattle.amqp_stream.specs.Changes.{Change}
use Rattle.amqp_stream.specs.Calls.{Call, as_reported}
use Rattle.amqp_stream.specs.Ends.{Supply, Store}
use Rattle.amqp_stream.specs.Reports.{EndsAt, unreported}
use Rattle.amqp_turns.specs.InTurn.{AreInTurn, IsNextFault, EndsBegun}
use Rattle.amqp_in_turn.specs.declared.errors.TurnError.{TurnError}
use Rattle.amqp_in_turn.specs.declared.errors.TurnError.TheVariants as errors
use Rattle.amqp_in_turn.specs.declared.errors.Refusal.{Refusal}
use Rattle.amqp_in_turn.specs.declared.errors.Refusal.TheVariants as refusals
use Rattle.amqp_in_turn.specs.Errors.{turn_error}
use Rattle.amqp_in_turn.specs.RunsInTurn.{frames_at, TurnRun}

-- what follows the frames in front where a run ended early: a frame at which memory may run out, or
-- what is no frame
abbrev pub IsRestOf : (AMQPFrameType → Bool) → ℕ → List ℕ → List ℕ → Cause → Type 0
IsRestOf wants m taken rest write_failed = Unit {0}
IsRestOf wants m taken rest out_of_memory = BeginsWith (λ kind. IsTrue (wants kind)) (Some m) rest
IsRestOf wants m taken rest cause = rest ≡ place plain (Some m) taken

-- a message is open on this channel, and on none below it
pub record IsLeastOpen (frames : List Frame) (channel : ℕ) : Type 0 where
  pub begun : EndsBegun frames channel
  pub least : (other : ℕ) → EndsBegun frames other → channel ≤ other

-- it is named
abbrev pub NamesLeastOpen : List Frame → Option ℕ → Type 0
NamesLeastOpen frames None = ⊥
NamesLeastOpen frames (Some channel) = IsLeastOpen frames channel

-- The same, or the frame that is not in turn, or nothing where the input ends inside a message:
-- then the least channel on which one is open is named.
abbrev pub IsRestInTurn : (AMQPFrameType → Bool) → ℕ
    → List ℕ → List ℕ → List ℕ → Option ℕ → TurnError → Type 0
IsRestInTurn wants m taken sequence rest named (errors.BadContent fault) =
    IsNextFault (frames_at m taken) (frames_at m sequence) fault
IsRestInTurn wants m taken sequence rest named errors.OpenContent =
    (rest ≡ []) × NamesLeastOpen (frames_at m sequence) named
IsRestInTurn wants m taken sequence rest named (errors.Stream error) =
    IsRestOf wants m taken rest (cause_of error)

-- the named channel, where it is that of what follows the frames in front: where the input ends
-- inside a message nothing follows
abbrev pub next_channel : TurnError → Option ℕ → Option ℕ
next_channel errors.OpenContent named = None
next_channel (errors.BadContent fault) named = named
next_channel (errors.Stream error) named = named

-- the report of a run that writes for frames as far as they are in turn: the frames in front are
abbrev pub IsTurnReport : (AMQPFrameType → Bool)
    → ℕ → Change Supply → RunReport TurnError → Type 0
IsTurnReport wants m source report =
    EndsAt plain m source
    (λ taken sequence rest. AreInTurn (frames_at m sequence)
    × IsRestInTurn wants m taken sequence rest report.channel report.error)
    report.place (next_channel report.error report.channel)

-- the channel that a report names: of the frame that comes next, or of a message that is open at
-- the end of input
abbrev pub named_channel : RunError Refusal → Option ℕ → Option ℕ
named_channel (runs.Refused (refusals.OpenContent channel)) next = Some channel
named_channel (runs.Refused (refusals.BadContent fault)) next = next
named_channel (runs.Stream error) next = next

-- what a run returns, with its error as one of these
abbrev pub as_turned_report : Result (Unit {0}) (RunReport (RunError Refusal))
    → Result (Unit {0}) (RunReport TurnError)
as_turned_report (Ok done) = Ok done
as_turned_report (Err report) = Err (record {
  error = turn_error report.error;
  place = report.place;
  channel = named_channel report.error report.channel;
})

-- a run that writes this text for the frames in turn, with its report
abbrev pub TurnReport : {S K : Type 0} → (List Frame → List ℕ) → (AMQPFrameType → Bool)
    → (S → Supply) → (K → Store) → Call S K → Result (Unit {0}) (RunReport TurnError) → Type 0
TurnReport text wants supply store call result =
    TurnRun text wants supply store call (unreported result)
    × IfErr result (IsTurnReport wants call.limit (as_reported supply store call).source)
