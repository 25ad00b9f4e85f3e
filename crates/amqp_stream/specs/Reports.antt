-- Reports of runs that ended early: after how many bytes of whole frames, and on which channel
-- the next frame is.
use Rattle.std.specs.Prelude.{◌≡◌, ◌⊎◌, ℕ, ◌+◌, ◌≤◌, ◌==◌, ◌||◌, Bool, List, [], ◌++◌, length}
use Rattle.std.specs.Prelude.{take, drop, slice_index, nat_lt, if◌then◌else◌, Option, Some, None}
use Rattle.std.specs.Prelude.{Result, Ok, Err, IfErr, IsTrue}
use Rattle.std.specs.Int.{w16, from_be_bytes}
use Rattle.amqp_types.specs.Constants.{method_byte, header_byte, body_byte, heartbeat_byte}
use Rattle.amqp_types.specs.Levels.{Level}
use Rattle.amqp_wire.specs.HeaderScan.{BeginsWith}
use Rattle.amqp_wire.specs.Fronts.{place}
use Rattle.amqp_stream.specs.declared.errors.StreamError.{StreamError}
use Rattle.amqp_stream.specs.declared.errors.RunError.{RunError}
use Rattle.amqp_stream.specs.declared.errors.RunError.TheVariants as ends
use Rattle.amqp_stream.specs.declared.report.RunReport.{RunReport}
use Rattle.amqp_stream.specs.Errors.{Cause, write_failed, out_of_memory, cause_of}
use Rattle.amqp_stream.specs.Changes.{Change}
use Rattle.amqp_stream.specs.Ends.{Supply, Store, Takes, last}
use Rattle.amqp_stream.specs.Calls.{Call, as_reported}
use Rattle.amqp_stream.specs.Causes.{IsSequence, NeverBegan}
use Rattle.amqp_stream.specs.Steps.{Manner}
use Rattle.amqp_stream.specs.Streaming.{Ending, refused_by, stopped_by}
use Rattle.amqp_stream.specs.Streaming.{error_ending, refused_of, state_of}
use Rattle.amqp_stream.specs.Resuming.{IsRefusedThere}
use Rattle.amqp_stream.specs.Runs.{WriterRun, NeverRan, CanonicalRun}

-- ---- the channel

-- a frame that begins with this byte has a channel; a protocol header has none
abbrev pub has_channel : ℕ → Bool
has_channel kind =
    (kind == method_byte)
    || ((kind == header_byte) || ((kind == body_byte) || (kind == heartbeat_byte)))

-- the channel of the frame that some bytes begin with, where the seven bytes of its header are
-- there (AMQP 0-9-1, section 4.2.3)
unfoldable pub channel_in : List ℕ → Option ℕ
channel_in bytes =
    if nat_lt (length bytes) 7 then None
    else (if has_channel (slice_index bytes 0) then Some (from_be_bytes w16 (take 2 (drop 1 bytes)))
    else None)

-- ---- the place

-- Of the bytes that were taken those in front are a sequence of frames, and at most a
-- buffer's follow. The place is the number of bytes of the sequence, as they came, and the
-- channel that of the frame after it. `IsThere` says of the taken bytes, the sequence and the
-- rest why it ends there.
pub record EndsAt (level : Level) (m : ℕ) (source : Change Supply)
    (IsThere : List ℕ → List ℕ → List ℕ → Type 0) (at : ℕ) (channel : Option ℕ) : Type 0 where
  pub taken : List ℕ
  pub reads : ℕ
  pub takes : Takes source.old source.new taken reads
  pub sequence : List ℕ
  pub rest : List ℕ
  pub parts : taken ≡ sequence ++ rest
  pub is_sequence : IsSequence level m sequence
  pub few : length rest ≤ m + 8
  pub there : IsThere taken sequence rest
  pub place_is : length taken ≤ last → at ≡ length sequence
  pub channel_is : channel ≡ channel_in rest

-- What follows the frames, by how the run ended: the refused frame, or one at which memory
-- may run out, or else what is no frame. After a failed write it is what follows the frames
-- that were taken.
abbrev pub IsRestBy : {S E : Type 0} → Manner S E → S → ℕ → List ℕ → List ℕ → Ending E → Type 0
IsRestBy w t m taken rest (stopped_by write_failed) = Unit {0}
IsRestBy w t m taken rest (stopped_by out_of_memory) =
    BeginsWith (λ kind. IsTrue (w.wants kind)) (Some m) rest
IsRestBy w t m taken rest (refused_by why) =
    IsRefusedThere w t m rest why ⊎ ((rest ≡ []) × (w.end t ≡ Some why))
IsRestBy w t m taken rest ending = rest ≡ place w.level (Some m) taken

-- the report of a run of a writer, which refuses none of the frames in front
abbrev pub IsReportBy : {S E : Type 0} → Manner S E → S
    → ℕ → Change Supply → RunReport (RunError E) → Type 0
IsReportBy w s m source report = EndsAt w.level m source
    (λ taken sequence rest. (refused_of w s m sequence ≡ None)
    × IsRestBy w (state_of w s m sequence) m taken rest (error_ending report.error))
    report.place report.channel

-- what follows the frames where none is refused and memory never runs out
abbrev pub IsRestAt : Level → ℕ → List ℕ → List ℕ → Cause → Type 0
IsRestAt level m taken rest write_failed = Unit {0}
IsRestAt level m taken rest out_of_memory = ⊥
IsRestAt level m taken rest cause = rest ≡ place level (Some m) taken

-- the report of such a run
abbrev pub IsReportAt : Level → ℕ → Change Supply → RunReport StreamError → Type 0
IsReportAt level m source report = EndsAt level m source
    (λ taken sequence rest. IsRestAt level m taken rest (cause_of report.error))
    report.place report.channel

-- memory ran out before anything was read
pub record IsAtStart {E : Type 0} (report : RunReport E) : Type 0 where
  pub place_is : report.place ≡ 0
  pub no_channel : report.channel ≡ None

-- ---- the error alone

-- the result of a run, without where it ended
abbrev pub unreported : {E : Type 0} → Result (Unit {0}) (RunReport E) → Result (Unit {0}) E
unreported (Ok done) = Ok done
unreported (Err report) = Err report.error

-- the report of a stream, as one of a run
abbrev pub as_run_report : {E : Type 0} → Result (Unit {0}) (RunReport StreamError)
    → Result (Unit {0}) (RunReport (RunError E))
as_run_report (Ok done) = Ok done
as_run_report (Err report) =
    Err
    (record { error = ends.Stream report.error; place = report.place; channel = report.channel })

-- ---- whole calls

-- a run of a writer, with its report
abbrev pub WriterReport : {T E S K : Type 0} → Manner T E → Change T → (S → Supply)
    → (K → Store) → Call S K → Result (Unit {0}) (RunReport (RunError E)) → Type 0
WriterReport w writer supply store call result =
    WriterRun w writer supply store call (unreported result)
    × IfErr result (IsReportBy w writer.old call.limit (as_reported supply store call).source)

-- one that never began
abbrev pub NeverRanReport : {T E S K : Type 0} → Change T → Change S
    → Change K → Result (Unit {0}) (RunReport (RunError E)) → Type 0
NeverRanReport writer source sink result =
    NeverRan writer source sink (unreported result) × IfErr result IsAtStart

-- a run that writes canonical bytes, with its report
abbrev pub CanonicalReport : {S K : Type 0} → Level → (S → Supply) → (K → Store)
    → Call S K → Result (Unit {0}) (RunReport StreamError) → Type 0
CanonicalReport level supply store call result =
    CanonicalRun level supply store call (unreported result)
    × IfErr result (IsReportAt level call.limit (as_reported supply store call).source)

-- one that never began
abbrev pub NeverBeganReport : {S K E : Type 0} → Change S
    → Change K → E → Result (Unit {0}) (RunReport E) → Type 0
NeverBeganReport source sink error result =
    NeverBegan source sink error (unreported result) × IfErr result IsAtStart
