-- What a call does that writes for the frames of a stream as far as they are in turn: which bytes
-- are taken, which are written, and why it ends.
-- `text` is what is written for frames, and `wants` the types of frames at which
-- memory may run out.
use Rattle.std.specs.Prelude.{◌≡◌, ℕ, Bool, ◌+◌, ◌≤◌, IsTrue, List, ◌++◌}
use Rattle.std.specs.Prelude.{length, Some, Result, Ok, Err}
use Rattle.amqp_types.specs.Levels.{plain}
use Rattle.amqp_types.specs.Judging.{IsBytes}
use Rattle.amqp_wire.specs.declared.frame_type.AMQPFrameType.{AMQPFrameType}
use Rattle.amqp_wire.specs.Frames.{Frame}
use Rattle.amqp_wire.specs.Fronts.{front}
use Rattle.amqp_wire.specs.HeaderScan.{BeginsWith}
use Rattle.amqp_stream.specs.declared.errors.StreamError.TheVariants as streams
use Rattle.amqp_stream.specs.Errors.{Cause, write_failed, out_of_memory, cause_of}
use Rattle.amqp_stream.specs.Calls.{Call, as_reported}
use Rattle.amqp_stream.specs.Ends.{Supply, Store, Takes, Gains, IsEmpty}
use Rattle.amqp_stream.specs.Writing.{IsPrefix}
use Rattle.amqp_stream.specs.Causes.{IsSequence, IsCausedBy, IsValid, UnlessStopped}
use Rattle.amqp_stream.specs.Causes.{IsOutOfMemory, answer_to, IsWrittenUnless}
use Rattle.amqp_stream.specs.Runs.{Claims, Runs}
use Rattle.amqp_in_turn.specs.declared.errors.TurnError.{TurnError}
use Rattle.amqp_in_turn.specs.declared.errors.TurnError.TheVariants as errors
use Rattle.amqp_turns.specs.InTurn.{IsLongestInTurn, IsNextFault, IsOpen, NoneIsOpen, AreInTurn}

-- the frames at the front of some bytes
abbrev pub frames_at : ℕ → List ℕ → List Frame
frames_at m bytes = front plain (Some m) bytes

-- A sequence of frames that are in turn was written for, and then a frame of a type that is
-- wanted has come.
pub record AtWanted (text : List Frame → List ℕ) (wants : AMQPFrameType → Bool)
    (m : ℕ) (taken written : List ℕ) : Type 0 where
  pub sequence : List ℕ
  pub rest : List ℕ
  pub parts : taken ≡ sequence ++ rest
  pub is_sequence : IsSequence plain m sequence
  pub in_turn : AreInTurn (frames_at m sequence)
  pub wanted : BeginsWith (λ kind. IsTrue (wants kind)) (Some m) rest
  pub written_is : written ≡ text (frames_at m sequence)

-- At most n of the bytes taken come after a sequence of frames that are in turn and were written
-- for. So of what follows a frame that is not in turn no more is taken than was held with it.
pub record IsTextBehindBy (text : List Frame → List ℕ)
    (m : ℕ) (taken written : List ℕ) (n : ℕ) : Type 0 where
  pub sequence : List ℕ
  pub rest : List ℕ
  pub parts : taken ≡ sequence ++ rest
  pub is_sequence : IsSequence plain m sequence
  pub in_turn : AreInTurn (frames_at m sequence)
  pub written_begins : IsPrefix (text (frames_at m sequence)) written
  pub few : length rest ≤ n

-- Unless a write or memory failed, all frames at the front are in turn.
abbrev pub IsAllInTurn : List Frame → List Frame → Cause → Type 0
IsAllInTurn all frames write_failed = Unit {0}
IsAllInTurn all frames out_of_memory = Unit {0}
IsAllInTurn all frames cause = frames ≡ all

-- When each result comes. `frames` is the longest prefix in turn of the frames at the front of
-- the bytes taken.
abbrev pub HasCauseInTurn : (List Frame → List ℕ) → (AMQPFrameType → Bool)
    → Call Supply Store → List ℕ → List ℕ → List Frame → Result (Unit {0}) TurnError → Type 0
HasCauseInTurn text wants call taken written frames (Ok done) =
    IsSequence plain call.limit taken × IsEmpty call.source.new.left
    × (frames ≡ frames_at call.limit taken) × NoneIsOpen frames
HasCauseInTurn text wants call taken written frames (Err (errors.BadContent fault)) =
    IsNextFault (frames_at call.limit taken) frames fault
HasCauseInTurn text wants call taken written frames (Err errors.OpenContent) =
    IsSequence plain call.limit taken × IsEmpty call.source.new.left
    × (frames ≡ frames_at call.limit taken) × IsOpen frames
HasCauseInTurn text wants call taken written frames (Err (errors.Stream error)) =
    IsCausedBy plain call taken (AtWanted text wants call.limit taken written) (cause_of error)
    × IsAllInTurn (frames_at call.limit taken) frames (cause_of error)

-- what was written of all that is to be, by the result: all of it, unless a write or memory failed
abbrev pub HasWrittenInTurn : List ℕ → List ℕ → Result (Unit {0}) TurnError → Type 0
HasWrittenInTurn all written (Ok done) = written ≡ all
HasWrittenInTurn all written (Err (errors.BadContent fault)) = written ≡ all
HasWrittenInTurn all written (Err errors.OpenContent) = written ≡ all
HasWrittenInTurn all written (Err (errors.Stream error)) =
    IsWrittenUnless all written (cause_of error)

-- a whole call
pub record GoesInTurn (text : List Frame → List ℕ) (wants : AMQPFrameType → Bool)
    (call : Call Supply Store) (result : Result (Unit {0}) TurnError) : Type 0 where
  pub taken : List ℕ
  pub are_bytes : IsBytes taken
  pub reads : ℕ
  pub takes : Takes call.source.old call.source.new taken reads
  pub at_most : reads ≤ call.budget
  pub all_spent : result ≡ Err (errors.Stream streams.TurnsSpent) → reads ≡ call.budget
  pub written : List ℕ
  pub gains : Gains call.sink.old call.sink.new written
  pub frames : List Frame
  pub in_turn : IsLongestInTurn (frames_at call.limit taken) frames
  pub writes : HasWrittenInTurn (text frames) written result
  pub cause : HasCauseInTurn text wants call taken written frames result
  pub behind : IsTextBehindBy text call.limit taken written (call.limit + 8)

-- What is returned for all the bytes of a source: the fault of the first frame that is not in turn;
-- or else the result of canonicalizing them, and where that is Ok, whether content is open.
abbrev pub IsAnsweredTo : ℕ → List ℕ → List Frame → Result (Unit {0}) TurnError → Type 0
IsAnsweredTo m bytes frames (Ok done) =
    (frames ≡ frames_at m bytes) × (answer_to plain m bytes ≡ Ok tt) × NoneIsOpen frames
IsAnsweredTo m bytes frames (Err (errors.BadContent fault)) =
    IsNextFault (frames_at m bytes) frames fault
IsAnsweredTo m bytes frames (Err errors.OpenContent) =
    (frames ≡ frames_at m bytes) × (answer_to plain m bytes ≡ Ok tt) × IsOpen frames
IsAnsweredTo m bytes frames (Err (errors.Stream error)) =
    (frames ≡ frames_at m bytes) × (answer_to plain m bytes ≡ Err error)

-- what is written and returned, by the bytes alone
pub record IsExactlyInTurn (text : List Frame → List ℕ) (m : ℕ)
    (bytes written : List ℕ) (result : Result (Unit {0}) TurnError) : Type 0 where
  pub frames : List Frame
  pub in_turn : IsLongestInTurn (frames_at m bytes) frames
  pub answered : IsAnsweredTo m bytes frames result
  pub written_is : written ≡ text frames

-- This is so, but for memory that ran out, a spent read budget, and faults of the two ends.
abbrev pub UnlessStoppedInTurn : Result (Unit {0}) TurnError → Type 0 → Type 0
UnlessStoppedInTurn (Ok done) So = So
UnlessStoppedInTurn (Err (errors.BadContent fault)) So = So
UnlessStoppedInTurn (Err errors.OpenContent) So = So
UnlessStoppedInTurn (Err (errors.Stream error)) So = UnlessStopped (cause_of error) So

-- what a call returns over a source that reports its bytes
pub record GoesExactly (text : List Frame → List ℕ) (call : Call Supply Store)
    (bytes : List ℕ) (result : Result (Unit {0}) TurnError) : Type 0 where
  pub written : List ℕ
  pub gains : Gains call.sink.old call.sink.new written
  pub answer : UnlessStoppedInTurn result (IsExactlyInTurn text call.limit bytes written result)

-- the frames at the front of the bytes are in turn, and at their end no content is open
pub record IsComplete (m : ℕ) (bytes : List ℕ) : Type 0 where
  pub in_turn : AreInTurn (frames_at m bytes)
  pub none_open : NoneIsOpen (frames_at m bytes)

-- the result is Ok, or memory ran out
abbrev pub IsOkOrNoMemory : Result (Unit {0}) TurnError → Type 0
IsOkOrNoMemory (Ok done) = Unit {0}
IsOkOrNoMemory (Err (errors.BadContent fault)) = ⊥
IsOkOrNoMemory (Err errors.OpenContent) = ⊥
IsOkOrNoMemory (Err (errors.Stream error)) = IsOutOfMemory (cause_of error)

-- what is claimed of a run that writes this text for the frames in turn
abbrev pub turn_claims : (List Frame → List ℕ) → (AMQPFrameType → Bool)
    → Call Supply Store → Result (Unit {0}) TurnError → Claims
turn_claims text wants call result = record {
  Goes = GoesInTurn text wants call result;
  IsSpent = result ≡ Err (errors.Stream streams.TurnsSpent);
  Exactly = λ bytes. GoesExactly text call bytes result;
  Accepts = λ bytes. IsValid plain call.limit call.budget bytes × IsComplete call.limit bytes;
  IsDone = IsOkOrNoMemory result;
}

-- such a run
abbrev pub TurnRun : {S K : Type 0} → (List Frame → List ℕ) → (AMQPFrameType → Bool)
    → (S → Supply) → (K → Store) → Call S K → Result (Unit {0}) TurnError → Type 0
TurnRun text wants supply store call result =
    Runs supply store call (turn_claims text wants (as_reported supply store call) result)
