-- What a run does: which bytes are taken, what is written for their frames, and why it ends.
use Rattle.std.specs.Prelude.{◌≡◌, ◌⊎◌, ℕ, Bool, ◌+◌, ◌≤◌, true, List, [], ◌∷◌, ◌++◌, length}
use Rattle.std.specs.Prelude.{Option, Some, None, Result, Ok, Err, IsTrue}
use Rattle.amqp_types.specs.Levels.{Level}
use Rattle.amqp_types.specs.Judging.{not_tidy, IsBytes}
use Rattle.amqp_wire.specs.declared.frame_type.AMQPFrameType.{AMQPFrameType}
use Rattle.amqp_wire.specs.Frames.{Raw, Frame}
use Rattle.amqp_wire.specs.HeaderScan.{BeginsWith}
use Rattle.amqp_wire.specs.Verdicts.{decode_raw, is_at}
use Rattle.amqp_wire.specs.Fronts.{front}
use Rattle.amqp_stream.specs.declared.errors.StreamError.{StreamError}
use Rattle.amqp_stream.specs.declared.errors.StreamError.TheVariants as errors
use Rattle.amqp_stream.specs.declared.errors.RunError.{RunError}
use Rattle.amqp_stream.specs.declared.errors.RunError.TheVariants as ends
use Rattle.amqp_stream.specs.declared.sink.SinkFault.{SinkFault}
use Rattle.amqp_stream.specs.Errors.{Cause, faulty, cut_short, budget_spent}
use Rattle.amqp_stream.specs.Errors.{write_failed, out_of_memory, cause_of}
use Rattle.amqp_stream.specs.Changes.{Change}
use Rattle.amqp_stream.specs.Calls.{Call}
use Rattle.amqp_stream.specs.Ends.{Supply, Store, Takes, Gains, IsEmpty}
use Rattle.amqp_stream.specs.Writing.{IsPrefix, WritesAll, Gathered}
use Rattle.amqp_stream.specs.Writing.{GatherFails, Keeps, IsFaulty, AsksTidy}
use Rattle.amqp_stream.specs.Causes.{answer_to, IsSequence, IsCausedBy}
use Rattle.amqp_stream.specs.Causes.{UnlessStopped, IsOutOfMemory}
use Rattle.amqp_stream.specs.Steps.{Manner, text, refused, state}

-- ---- how a run ends

-- at the end of its input, by a refusal of the writer's own, or early
pub data Ending (E : Type 0) : Type 0 where
  finished : Ending E
  refused_by : E → Ending E
  stopped_by : Cause → Ending E

-- the ending of an error of a run
abbrev pub error_ending : {E : Type 0} → RunError E → Ending E
error_ending (ends.Stream error) = stopped_by (cause_of error)
error_ending (ends.Refused why) = refused_by why

-- the ending of a result of a run
abbrev pub ending_of : {E : Type 0} → Result (Unit {0}) (RunError E) → Ending E
ending_of (Ok done) = finished
ending_of (Err error) = error_ending error

-- the result of a stream, as one of a run
abbrev pub as_run : {E : Type 0} → Result (Unit {0}) StreamError → Result (Unit {0}) (RunError E)
as_run (Ok done) = Ok done
as_run (Err error) = Err (ends.Stream error)

-- ---- one frame

-- a whole frame at the writer's level, what is written for it, and the state after it
pub record IsStep {S E : Type 0} (w : Manner S E)
    (s t : S) (raw : Raw) (bytes : List ℕ) : Type 0 where
  pub frame : Frame
  pub is_whole : decode_raw raw ≡ Ok frame
  pub at_level : is_at w.level raw ≡ true
  pub steps : w.step s frame ≡ Ok (bytes, t)

-- a whole frame at the writer's level that it refuses
pub record IsRefused {S E : Type 0} (w : Manner S E) (s : S) (raw : Raw) (why : E) : Type 0 where
  pub frame : Frame
  pub is_whole : decode_raw raw ≡ Ok frame
  pub at_level : is_at w.level raw ≡ true
  pub refuses : w.step s frame ≡ Err why

-- what is written for a frame was gathered
pub record Writes {S E : Type 0} (w : Manner S E) (s t : S) (raw : Raw)
    (old new : Store) (before after : List ℕ) : Type 0 where
  pub bytes : List ℕ
  pub step : IsStep w s t raw bytes
  pub gathered : Gathered old new before after bytes

-- what is written for a frame could not be written, or not all of it
pub record WriteFails {S E : Type 0} (w : Manner S E) (s : S)
    (raw : Raw) (old new : Store) (before after : List ℕ) : Type 0 where
  pub bytes : List ℕ
  pub next : S
  pub step : IsStep w s next raw bytes
  pub failed : GatherFails old new before after bytes

-- What a writer returns for a frame. Only after a failed write, and after memory ran out, its
-- state is not known.
abbrev pub WritesBy : {S E : Type 0} → Manner S E → S → S
    → Raw → Store → Store → List ℕ → List ℕ → Ending E → Type 0
WritesBy w s t raw old new before after finished = Writes w s t raw old new before after
WritesBy w s t raw old new before after (refused_by why) =
    IsRefused w s raw why × Keeps old new before after × (t ≡ s)
WritesBy w s t raw old new before after (stopped_by (faulty bad)) =
    IsFaulty w.level raw bad × Keeps old new before after × (t ≡ s)
WritesBy w s t raw old new before after (stopped_by write_failed) =
    WriteFails w s raw old new before after
WritesBy w s t raw old new before after (stopped_by out_of_memory) =
    IsTrue (w.wants raw.kind) × Keeps old new before after
WritesBy w s t raw old new before after (stopped_by cause) = ⊥

-- what a writer returns at the end of input
abbrev pub end_result : {E : Type 0} → Option E → Result (Unit {0}) E
end_result None = Ok tt
end_result (Some why) = Err why

-- the ending at the end of input, with these bytes held
abbrev pub end_with : {E : Type 0} → List ℕ → Option E → Ending E
end_with [] None = finished
end_with [] (Some why) = refused_by why
end_with (byte ∷ bytes) end = stopped_by cut_short

-- the result of a call that is to end with this error, and first writes what is pending
abbrev pub ended : {E : Type 0} → RunError E
    → Result (Unit {0}) SinkFault → Result (Unit {0}) (RunError E)
ended error (Ok done) = Err error
ended error (Err bad) = Err (ends.Stream errors.WriteFault)

-- what was pending was written, and then the call ends with this error, if it can
pub record EndsWith {E : Type 0} (old new : Store) (pending : List ℕ)
    (error : RunError E) (result : Result (Unit {0}) (RunError E)) : Type 0 where
  pub written : Result (Unit {0}) SinkFault
  pub writes : WritesAll old new pending written
  pub answer : result ≡ ended error written

-- ---- a stream

-- What a run is to write: the level at which frames are read; of some bytes what is written for the
-- frames at their front, why a frame of these is refused, if one is, and why the stream may not end
-- after them; and the types of frames at which memory may run out.
pub record Plan (E : Type 0) : Type 0 where
  pub level : Level
  pub text : List ℕ → List ℕ
  pub refusal : List ℕ → Option E
  pub end : List ℕ → Option E
  pub wants : AMQPFrameType → Bool

-- all was taken, and the stream may not end after it
pub record IsUnended {E : Type 0} (plan : Plan E)
    (call : Call Supply Store) (taken : List ℕ) (why : E) : Type 0 where
  pub sequence : IsSequence plan.level call.limit taken
  pub empty : IsEmpty call.source.new.left
  pub none_refused : plan.refusal taken ≡ None
  pub ends : plan.end taken ≡ Some why

-- A sequence of frames that was written for, and of which none is refused, and then a frame at
-- which memory may run out have come.
pub record AtWanting {E : Type 0} (plan : Plan E) (m : ℕ) (taken written : List ℕ) : Type 0 where
  pub sequence : List ℕ
  pub rest : List ℕ
  pub parts : taken ≡ sequence ++ rest
  pub is_sequence : IsSequence plan.level m sequence
  pub none_refused : plan.refusal sequence ≡ None
  pub wanting : BeginsWith (λ kind. IsTrue (plan.wants kind)) (Some m) rest
  pub written_is : written ≡ plan.text sequence

-- At most n of the bytes taken come after a sequence of frames that was written for, and of which
-- none is refused. So of what follows a refused frame no more is taken than was held with it.
pub record IsShortBy {E : Type 0} (plan : Plan E)
    (m : ℕ) (taken written : List ℕ) (n : ℕ) : Type 0 where
  pub sequence : List ℕ
  pub rest : List ℕ
  pub parts : taken ≡ sequence ++ rest
  pub is_sequence : IsSequence plan.level m sequence
  pub none_refused : plan.refusal sequence ≡ None
  pub written_begins : IsPrefix (plan.text sequence) written
  pub few : length rest ≤ n

-- when each ending comes
abbrev pub HasCause : {E : Type 0} → Plan E
    → Call Supply Store → List ℕ → List ℕ → Ending E → Type 0
HasCause plan call taken written finished =
    IsSequence plan.level call.limit taken × IsEmpty call.source.new.left × (plan.end taken ≡ None)
HasCause plan call taken written (refused_by why) =
    (plan.refusal taken ≡ Some why) ⊎ IsUnended plan call taken why
HasCause plan call taken written (stopped_by cause) =
    IsCausedBy plan.level call taken (AtWanting plan call.limit taken written) cause

-- all of the front was written for, and no frame of it refused
pub record IsAllWritten {E : Type 0} (plan : Plan E) (taken written : List ℕ) : Type 0 where
  pub text_is : written ≡ plan.text taken
  pub none_refused : plan.refusal taken ≡ None

-- What was written: what is written for the whole front, or a part of it where a write
-- or memory failed.
abbrev pub HasWritten : {E : Type 0} → Plan E → List ℕ → List ℕ → Ending E → Type 0
HasWritten plan taken written (stopped_by write_failed) = IsPrefix written (plan.text taken)
HasWritten plan taken written (stopped_by out_of_memory) = IsPrefix written (plan.text taken)
HasWritten plan taken written (refused_by why) = written ≡ plan.text taken
HasWritten plan taken written ending = IsAllWritten plan taken written

-- A whole run: which bytes were taken, in how many reads, what was written for them, and why the
-- run ended.
pub record Streams {E : Type 0} (plan : Plan E)
    (call : Call Supply Store) (ending : Ending E) : Type 0 where
  pub taken : List ℕ
  pub are_bytes : IsBytes taken
  pub reads : ℕ
  pub takes : Takes call.source.old call.source.new taken reads
  pub at_most : reads ≤ call.budget
  pub all_spent : ending ≡ stopped_by budget_spent → reads ≡ call.budget
  pub written : List ℕ
  pub gains : Gains call.sink.old call.sink.new written
  pub writes : HasWritten plan taken written ending
  pub cause : HasCause plan call taken written ending
  pub tidy_only : ending ≡ stopped_by (faulty not_tidy) → AsksTidy plan.level
  pub short_by : IsShortBy plan call.limit taken written (call.limit + 8)

-- ---- a stream by all the bytes of its source

-- the result at the end of a stream in which nothing was refused
abbrev pub answer_at_end : {E : Type 0} → Option E → Result (Unit {0}) StreamError → Ending E
answer_at_end (Some why) (Ok done) = refused_by why
answer_at_end None (Ok done) = finished
answer_at_end end (Err error) = stopped_by (cause_of error)

-- The result for all the bytes of a source: by the first frame that is refused, or by their place.
abbrev pub answer_of : {E : Type 0} → Option E → Option E → Result (Unit {0}) StreamError → Ending E
answer_of (Some why) end answer = refused_by why
answer_of None end answer = answer_at_end end answer

-- the result for all the bytes of a source, by the plan
abbrev pub answer_by : {E : Type 0} → Plan E → ℕ → List ℕ → Ending E
answer_by plan m bytes =
    answer_of (plan.refusal bytes) (plan.end bytes) (answer_to plan.level m bytes)

-- the ending and what was written are those of all the bytes
pub record IsExactRun {E : Type 0} (plan : Plan E) (m : ℕ)
    (bytes written : List ℕ) (ending : Ending E) : Type 0 where
  pub answer : ending ≡ answer_by plan m bytes
  pub text_is : written ≡ plan.text bytes

-- This is so, but for memory that runs out, a spent read budget, and faults of the two ends.
abbrev pub UnlessStoppedBy : {E : Type 0} → Ending E → Type 0 → Type 0
UnlessStoppedBy finished So = So
UnlessStoppedBy (refused_by why) So = So
UnlessStoppedBy (stopped_by cause) So = UnlessStopped cause So

-- what a run returns over a source that reports its bytes
pub record StreamsExactly {E : Type 0} (plan : Plan E) (call : Call Supply Store)
    (bytes : List ℕ) (ending : Ending E) : Type 0 where
  pub written : List ℕ
  pub gains : Gains call.sink.old call.sink.new written
  pub answer : UnlessStoppedBy ending (IsExactRun plan call.limit bytes written ending)

-- nothing of it is refused, and the stream may end after it
pub record IsWelcome {E : Type 0} (plan : Plan E) (bytes : List ℕ) : Type 0 where
  pub none_refused : plan.refusal bytes ≡ None
  pub ends : plan.end bytes ≡ None

-- at the end of the input, or out of memory
abbrev pub IsDoneOrWanting : {E : Type 0} → Ending E → Type 0
IsDoneOrWanting finished = Unit {0}
IsDoneOrWanting (refused_by why) = ⊥
IsDoneOrWanting (stopped_by cause) = IsOutOfMemory cause

-- ---- a stream of a writer

-- what it writes for the sequence of frames at the front of some bytes
abbrev pub text_of : {S E : Type 0} → Manner S E → S → ℕ → List ℕ → List ℕ
text_of w s m bytes = text w s (front w.level (Some m) bytes)

-- why it refuses a frame of it, if it does
abbrev pub refused_of : {S E : Type 0} → Manner S E → S → ℕ → List ℕ → Option E
refused_of w s m bytes = refused w s (front w.level (Some m) bytes)

-- its state after it
abbrev pub state_of : {S E : Type 0} → Manner S E → S → ℕ → List ℕ → S
state_of w s m bytes = state w s (front w.level (Some m) bytes)

-- what it is to write from this state on
abbrev pub plan_of : {S E : Type 0} → Manner S E → S → ℕ → Plan E
plan_of w s m = record {
  level = w.level;
  text = text_of w s m;
  refusal = refused_of w s m;
  end = λ bytes. w.end (state_of w s m bytes);
  wants = w.wants;
}

-- The writer's state after the run: that after the frames written for, unless a write
-- or memory failed.
abbrev pub HasState : {S E : Type 0} → Manner S E → Change S → ℕ → List ℕ → Ending E → Type 0
HasState w writer m taken (stopped_by write_failed) = Unit {0}
HasState w writer m taken (stopped_by out_of_memory) = Unit {0}
HasState w writer m taken ending = writer.new ≡ state_of w writer.old m taken

-- a whole run of a writer
pub record StreamsBy {S E : Type 0} (w : Manner S E) (writer : Change S)
    (call : Call Supply Store) (ending : Ending E) : Type 0 where
  pub run : Streams (plan_of w writer.old call.limit) call ending
  pub state_is : HasState w writer call.limit run.taken ending
