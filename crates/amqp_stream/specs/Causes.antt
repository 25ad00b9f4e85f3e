-- Why a stream ends, by the bytes taken and its two ends; and what it returns by all bytes of its
-- source.
use Rattle.std.specs.Prelude.{◌≡◌, ℕ, ◌<◌, ◌≤◌, List, [], ◌∷◌, length, Some, Result, Ok, Err}
use Rattle.amqp_types.specs.Levels.{Level}
use Rattle.amqp_types.specs.Judging.{Judged, past, fault, took}
use Rattle.amqp_wire.specs.Frames.{Frame}
use Rattle.amqp_wire.specs.Verdicts.{judge_frame}
use Rattle.amqp_wire.specs.Spelling.{SpellsFrames}
use Rattle.amqp_wire.specs.Fronts.{place, IsUndecided}
use Rattle.amqp_stream.specs.declared.errors.StreamError.{StreamError}
use Rattle.amqp_stream.specs.declared.errors.StreamError.TheVariants as errors
use Rattle.amqp_stream.specs.Errors.{error_for, Cause, faulty, cut_short, budget_spent, read_failed}
use Rattle.amqp_stream.specs.Errors.{write_failed, out_of_memory, cause_of}
use Rattle.amqp_stream.specs.Changes.{Change}
use Rattle.amqp_stream.specs.Ends.{Supply, Store, Rises, IsEmpty, last}
use Rattle.amqp_stream.specs.Calls.{Call}
use Rattle.amqp_stream.specs.Writing.{IsPrefix}

-- what is decoded at the place of some bytes
abbrev pub judge_place : Level → ℕ → List ℕ → Judged Frame
judge_place level m bytes = judge_frame level (Some m) (place level (Some m) bytes)

-- the bytes are a sequence of frames within the limit
abbrev pub IsSequence : Level → ℕ → List ℕ → Type 0
IsSequence level m bytes = (frames : List Frame) × SpellsFrames level (Some m) bytes frames

-- When a stream ends early by each cause. A fault of bytes comes exactly where the place of the
-- bytes taken has it, a failed read only where that place is empty or undecided.
abbrev pub IsCausedBy : Level → Call Supply Store → List ℕ → Type 0 → Cause → Type 0
IsCausedBy level call taken AtMemory (faulty bad) =
    judge_place level call.limit taken ≡ fault bad
IsCausedBy level call taken AtMemory cut_short =
    IsUndecided level (Some call.limit) (place level (Some call.limit) taken)
    × IsEmpty call.source.new.left
IsCausedBy level call taken AtMemory budget_spent =
    (judge_place level call.limit taken ≡ past) × (call.budget ≤ length taken)
IsCausedBy level call taken AtMemory read_failed =
    (judge_place level call.limit taken ≡ past)
    × Rises call.source.old.faults call.source.new.faults
IsCausedBy level call taken AtMemory write_failed =
    Rises call.sink.old.faults call.sink.new.faults
IsCausedBy level call taken AtMemory out_of_memory = AtMemory

-- what was written of a text: all of it, or a part of its front where a write or memory failed
abbrev pub IsWrittenUnless : List ℕ → List ℕ → Cause → Type 0
IsWrittenUnless text written write_failed = IsPrefix written text
IsWrittenUnless text written out_of_memory = IsPrefix written text
IsWrittenUnless text written cause = written ≡ text

-- memory ran out before anything was taken or written, and the result is this error
pub record NeverBegan {S K E : Type 0} (source : Change S) (sink : Change K)
    (error : E) (result : Result (Unit {0}) E) : Type 0 where
  pub no_memory : result ≡ Err error
  pub source_stays : source.new ≡ source.old
  pub sink_stays : sink.new ≡ sink.old

-- ---- by all the bytes of a source

-- The result for them, by their place. (No frame is at a place.)
abbrev pub answer_at : List ℕ → Judged Frame → Result (Unit {0}) StreamError
answer_at [] judged = Ok tt
answer_at (b ∷ bytes) past = Err errors.CutShort
answer_at (b ∷ bytes) (fault bad) = Err (error_for bad)
answer_at (b ∷ bytes) (took frame used) = Ok tt

-- the same, by what is decoded there
abbrev pub answer_to : Level → ℕ → List ℕ → Result (Unit {0}) StreamError
answer_to level m bytes = answer_at (place level (Some m) bytes) (judge_place level m bytes)

-- This is so, but for memory that ran out, a spent read budget, and faults of the two ends.
abbrev pub UnlessStopped : Cause → Type 0 → Type 0
UnlessStopped (faulty bad) So = So
UnlessStopped cut_short So = So
UnlessStopped cause So = Unit {0}

-- valid input: a sequence of frames within the limit, and a read budget above the number of bytes
pub record IsValid (level : Level) (m budget : ℕ) (bytes : List ℕ) : Type 0 where
  pub sequence : IsSequence level m bytes
  pub enough : length bytes < budget

-- no count of faults rises or stands at its last value
pub record NoFaults (from : Change Supply) (to : Change Store) : Type 0 where
  pub source : from.new.faults ≡ from.old.faults
  pub source_below : from.old.faults < last
  pub sink : to.new.faults ≡ to.old.faults
  pub sink_below : to.old.faults < last

-- memory ran out
abbrev pub IsOutOfMemory : Cause → Type 0
IsOutOfMemory out_of_memory = Unit {0}
IsOutOfMemory cause = ⊥

-- at the end of the input, or out of memory
abbrev pub IsOkOrNoMemory : Result (Unit {0}) StreamError → Type 0
IsOkOrNoMemory (Ok done) = Unit {0}
IsOkOrNoMemory (Err error) = IsOutOfMemory (cause_of error)
