-- What is read and written of a frame and its line.
use Rattle.std.specs.Prelude.{◌≡◌, ◌≢◌, ℕ, ◌<◌, ◌≤◌, List, ◌++◌, length, Some, Result, Ok, Err}
use Rattle.amqp_types.specs.Levels.{plain}
use Rattle.amqp_types.specs.Judging.{Judged, took, past, fault}
use Rattle.amqp_types.specs.Writing.{written}
use Rattle.amqp_wire.specs.Frames.{Frame}
use Rattle.amqp_wire.specs.Verdicts.{judge_frame}
use Rattle.amqp_stream.specs.declared.errors.StreamError.{StreamError}
use Rattle.amqp_stream.specs.declared.errors.StreamError.TheVariants as errors
use Rattle.amqp_lines.specs.Lines.{line}
use Rattle.amqp_lines.specs.OneLine.{IsStrictWithin}
use Rattle.amqp_c.specs.declared.lines.FrameLine.{FrameLine}
use Rattle.amqp_c.specs.Scans.{error_at, fault_status}
use Rattle.amqp_c.specs.Statuses.{buffer_too_small, cut_short}

-- neither is read or written
abbrev pub nothing_with : ℕ → FrameLine
nothing_with status = record { used = 0; length = 0; status = status; unused = 0 }

-- nothing is read or written, for the reason that the status gives: the buffer stays
pub record RefusesLine (status : ℕ) (old new : List ℕ) (result : FrameLine) : Type 0 where
  pub is : result ≡ nothing_with status
  pub kept : new ≡ old

-- One of so many bytes is read. The text of the other is written at the front of a buffer, where it
-- is long enough, and its length is returned.
pub record Converts (text : List ℕ) (used : ℕ)
    (old new : List ℕ) (result : FrameLine) : Type 0 where
  pub used_is : result.used ≡ used
  pub length_is : result.length ≡ length text
  pub unused_is : result.unused ≡ 0
  pub fits : length text ≤ length old → (result.status ≡ 0) × (new ≡ written old 0 text)
  pub too_long : length old < length text → (result.status ≡ buffer_too_small) × (new ≡ old)

-- ---- the line of the frame in front

-- what is written for the frame that is read from the left, where memory lasts
abbrev pub DumpedAt : Judged Frame → List ℕ → List ℕ → FrameLine → Type 0
DumpedAt (took frame used) old new result = Converts (line frame) used old new result
DumpedAt past old new result = RefusesLine cut_short old new result
DumpedAt (fault bad) old new result = RefusesLine (fault_status bad) old new result

-- the line of the frame in front is appended
abbrev pub AppendsFront : ℕ → List ℕ → List ℕ → List ℕ → Result ℕ StreamError → Type 0
AppendsFront m bytes old new (Ok used) =
    (frame : Frame) × (judge_frame plain (Some m) bytes ≡ took frame used)
    × (new ≡ old ++ line frame)
AppendsFront m bytes old new (Err errors.NoMemory) = Unit {0}
AppendsFront m bytes old new (Err error) = error_at (judge_frame plain (Some m) bytes) ≡ Some error

-- ---- the frame of the line in front

-- no line of a frame within the limit is in front of the text
abbrev pub IsNoFront : ℕ → List ℕ → Type 0
IsNoFront m text =
    (frame : Frame) (rest : List ℕ) → IsStrictWithin m frame → text ≢ line frame ++ rest
