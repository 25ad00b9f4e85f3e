-- Reports of reading lines back: at which line it ended early, and how many bytes come
-- before that line.
use Rattle.std.specs.Prelude.{◌≡◌, ℕ, ◌+◌, ◌-◌, ◌≤◌, List, ◌++◌, length, take, Some, Result}
use Rattle.std.specs.Prelude.{Ok, Err}
use Rattle.amqp_wire.specs.Frames.{Frame}
use Rattle.amqp_wire.specs.Canonical.{canon_frames}
use Rattle.amqp_stream.specs.Calls.{Call}
use Rattle.amqp_stream.specs.Ends.{Supply, Store, Takes, Gains, last}
use Rattle.amqp_stream.specs.Writing.{IsPrefix}
use Rattle.amqp_lines.specs.Lines.{lines}
use Rattle.amqp_lines.specs.Undumping.{read_size, AreStrict, HoldsNewline, IsLongestText}
use Rattle.amqp_lines.specs.Undumping.{HasCauseUndumped}
use Rattle.amqp_lines.specs.declared.errors.UndumpError.{UndumpError}
use Rattle.amqp_lines.specs.declared.errors.UndumpError.TheVariants as errors
use Rattle.amqp_lines.specs.declared.report.UndumpReport.{UndumpReport}
use Rattle.amqp_lines.specs.declared.report.LinePlace.{LinePlace}

-- ---- the place of a line

-- the line after those of these frames: its number, from 1 on, and how many bytes come before it
pub record IsLineAfter (frames : List Frame) (number place : ℕ) : Type 0 where
  pub line_is : number ≡ length frames + 1
  pub place_is : place ≡ length (lines frames)

-- ---- where a call ended

-- All lines that were taken are decided. Where a write or memory failed, those are that end in
-- front of the last 65,536 bytes, as many as one read takes at most.
abbrev pub AreDecided : ℕ → List ℕ → List Frame → List ℕ
    → Result (Unit {0}) UndumpError → Type 0
AreDecided m taken frames rest (Err errors.WriteFault) =
    HoldsNewline (take (length rest - read_size) rest) → ⊥
AreDecided m taken frames rest (Err errors.NoMemory) =
    HoldsNewline (take (length rest - read_size) rest) → ⊥
AreDecided m taken frames rest result = IsLongestText m taken frames rest

-- what was written of the canonical bytes of their frames: all, after a failed write a part of
-- their front
abbrev pub HasWrittenDecided : List ℕ → List ℕ → Result (Unit {0}) UndumpError → Type 0
HasWrittenDecided all written (Err errors.WriteFault) = IsPrefix written all
HasWrittenDecided all written result = written ≡ all

-- What was taken begins with the lines of frames, which are decided, and their canonical bytes were
-- written. The call ended at the line after these, by its cause.
pub record EndsAtLine (call : Call Supply Store)
    (error : UndumpError) (number place : ℕ) : Type 0 where
  pub taken : List ℕ
  pub reads : ℕ
  pub takes : Takes call.source.old call.source.new taken reads
  pub frames : List Frame
  pub are_strict : AreStrict call.limit frames
  pub rest : List ℕ
  pub parts : taken ≡ lines frames ++ rest
  pub decided : AreDecided call.limit taken frames rest (Err error)
  pub written : List ℕ
  pub gains : Gains call.sink.old call.sink.new written
  pub writes : HasWrittenDecided (canon_frames frames) written (Err error)
  pub cause : HasCauseUndumped call taken rest (Err error)
  pub line_after : length taken ≤ last → IsLineAfter frames number place

-- the line after the longest text that these bytes begin with
pub record IsLineOfText (m : ℕ) (bytes : List ℕ) (number place : ℕ) : Type 0 where
  pub frames : List Frame
  pub rest : List ℕ
  pub text : IsLongestText m bytes frames rest
  pub line_after : IsLineAfter frames number place

-- Where the text itself is at fault, it alone says at which line the call ended.
abbrev pub EndsExactlyAt : ℕ → List ℕ → UndumpError → ℕ → ℕ → Type 0
EndsExactlyAt m bytes errors.BadText number place = IsLineOfText m bytes number place
EndsExactlyAt m bytes errors.CutShort number place = IsLineOfText m bytes number place
EndsExactlyAt m bytes error number place = Unit {0}

-- ---- whole calls

-- the result of a call, without where it ended
abbrev pub unreported_lines : Result (Unit {0}) UndumpReport → Result (Unit {0}) UndumpError
unreported_lines (Ok done) = Ok done
unreported_lines (Err report) = Err report.error

-- The report of a call. Over a source that reports its bytes, however they are cut, the line of a
-- fault of the text is that after the longest text.
pub record IsUndumpReport (call : Call Supply Store) (report : UndumpReport) : Type 0 where
  pub ends : EndsAtLine call report.error report.line report.place
  pub exact : (bytes : List ℕ) → call.source.old.left ≡ Some bytes → length bytes ≤ last
      → EndsExactlyAt call.limit bytes report.error report.line report.place

-- ---- lines that are passed one after another

-- the first line of a text
abbrev pub first_line : LinePlace
first_line = record { line = 1; place = 0 }

-- the line after those of these frames, where the first of them is at an earlier place
pub record PassesLines (frames : List Frame) (old new : LinePlace) : Type 0 where
  pub line : old.line + length frames ≤ last → new.line ≡ old.line + length frames
  pub place : old.place + length (lines frames) ≤ last
      → new.place ≡ old.place + length (lines frames)
