-- What calls write, and what is pending after them.
use Rattle.std.specs.Prelude.{◌≡◌, ◌≢◌, ℕ, List, [], ◌++◌, Result, Ok, Err, OnOk, OnErr}
use Rattle.amqp_types.specs.Levels.{Level, plain, tidy, strict}
use Rattle.amqp_types.specs.Judging.{Fault, not_tidy, fault, took}
use Rattle.amqp_types.specs.declared.errors.ParserError.{ParserError}
use Rattle.amqp_types.specs.declared.errors.ParserError.TheVariants as parser_errors
use Rattle.amqp_wire.specs.Frames.{Raw, Frame}
use Rattle.amqp_wire.specs.Verdicts.{decode_raw, judge_scanned}
use Rattle.amqp_wire.specs.Canonical.{canon}
use Rattle.amqp_stream.specs.declared.errors.StreamError.{StreamError}
use Rattle.amqp_stream.specs.declared.errors.StreamError.TheVariants as errors
use Rattle.amqp_stream.specs.declared.sink.SinkFault.{SinkFault}
use Rattle.amqp_stream.specs.Errors.{Cause, faulty, write_failed, cause_of}
use Rattle.amqp_stream.specs.Ends.{Store, Gains, Rises}

-- the bytes begin so
abbrev pub IsPrefix : List ℕ → List ℕ → Type 0
IsPrefix piece bytes = (rest : List ℕ) × (piece ++ rest ≡ bytes)

-- all of the bytes were written, or a piece of their front and then the sink failed
pub record WritesAll (old new : Store) (bytes : List ℕ)
    (result : Result (Unit {0}) SinkFault) : Type 0 where
  pub piece : List ℕ
  pub gains : Gains old new piece
  pub prefix : IsPrefix piece bytes
  pub ok : OnOk result (piece ≡ bytes)
  pub err : OnErr result (Rises old.faults new.faults)

-- Bytes were put after those that were pending; some of them all were written, and the
-- rest is pending.
pub record Gathered (old new : Store) (before after bytes : List ℕ) : Type 0 where
  pub written : List ℕ
  pub gains : Gains old new written
  pub parts : written ++ after ≡ before ++ bytes

-- A part of the front of them all was written, the sink failed, and nothing is pending.
pub record GatherFails (old new : Store) (before after bytes : List ℕ) : Type 0 where
  pub piece : List ℕ
  pub gains : Gains old new piece
  pub prefix : IsPrefix piece (before ++ bytes)
  pub rises : Rises old.faults new.faults
  pub none : after ≡ []

-- bytes were gathered, or the sink failed
abbrev pub Gathers : Store → Store → List ℕ → List ℕ → List ℕ → Result (Unit {0}) SinkFault → Type 0
Gathers old new before after bytes (Ok done) = Gathered old new before after bytes
Gathers old new before after bytes (Err bad) = GatherFails old new before after bytes

-- nothing more is written or pending
abbrev pub Keeps : Store → Store → List ℕ → List ℕ → Type 0
Keeps old new before after = Gathered old new before after []

-- a failed write, as an error of a stream
abbrev pub stream_result : Result (Unit {0}) SinkFault → Result (Unit {0}) StreamError
stream_result (Ok done) = Ok done
stream_result (Err bad) = Err errors.WriteFault

-- the error of a whole payload, as an error of a stream
abbrev pub payload_fault : ParserError → StreamError
payload_fault parser_errors.ShortPayload = errors.ShortPayload
payload_fault parser_errors.TrailingBytes = errors.TrailingBytes
payload_fault parser_errors.UnknownClass = errors.UnknownClass
payload_fault parser_errors.UnknownMethod = errors.UnknownMethod
payload_fault parser_errors.NotUtf8 = errors.NotUtf8
payload_fault parser_errors.UnknownTag = errors.UnknownTag
payload_fault parser_errors.TooDeep = errors.TooDeep
payload_fault parser_errors.NoMemory = errors.NoMemory
payload_fault parser_errors.Incomplete = errors.NoMemory
payload_fault parser_errors.UnknownFrameType = errors.NoMemory
payload_fault parser_errors.BadProtocolHeader = errors.NoMemory
payload_fault parser_errors.BadFrameEnd = errors.NoMemory

-- only a reader that asks for tidy bytes refuses others
abbrev pub AsksTidy : Level → Type 0
AsksTidy plain = ⊥
AsksTidy tidy = Unit {0}
AsksTidy strict = Unit {0}

-- a frame that is none at this level
pub record IsFaulty (level : Level) (raw : Raw) (bad : Fault) : Type 0 where
  pub judged_bad : (used : ℕ) → judge_scanned level (took raw used) ≡ fault bad
  pub tidy_only : bad ≡ not_tidy → AsksTidy level

-- why the canonical bytes of a frame were not written
abbrev pub IsUnwritten : Raw → Store → Store → List ℕ → List ℕ → Cause → Type 0
IsUnwritten raw old new before after (faulty bad) =
    (decode_raw raw ≡ Err bad) × (bad ≢ not_tidy) × Keeps old new before after
IsUnwritten raw old new before after write_failed =
    (frame : Frame) × (decode_raw raw ≡ Ok frame) × GatherFails old new before after (canon frame)
IsUnwritten raw old new before after cause = ⊥

-- the canonical bytes of a frame were gathered, or it is reported why not
abbrev pub WritesFrame : Raw → Store → Store → List ℕ
    → List ℕ → Result (Unit {0}) StreamError → Type 0
WritesFrame raw old new before after (Ok done) =
    (frame : Frame) × (decode_raw raw ≡ Ok frame) × Gathered old new before after (canon frame)
WritesFrame raw old new before after (Err error) =
    IsUnwritten raw old new before after (cause_of error)
