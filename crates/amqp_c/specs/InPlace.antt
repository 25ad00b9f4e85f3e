-- Frames that are canonical already, and canonicalizing within one buffer.
use Rattle.std.specs.Prelude.{◌≡◌, ◌≢◌, ℕ, ◌<◌, ◌≤◌, List, ◌++◌, length}
use Rattle.std.specs.Prelude.{take, drop, Some, Result, Ok, Err}
use Rattle.amqp_types.specs.Levels.{Level, strict}
use Rattle.amqp_types.specs.Judging.{took}
use Rattle.amqp_types.specs.Writing.{Puts}
use Rattle.amqp_wire.specs.Frames.{Frame}
use Rattle.amqp_wire.specs.Canonical.{canon, canon_frames}
use Rattle.amqp_wire.specs.Spelling.{SpellsFrames}
use Rattle.amqp_wire.specs.Verdicts.{judge_frame}
use Rattle.amqp_wire.specs.Fronts.{front, place}
use Rattle.amqp_stream.specs.declared.errors.StreamError.{StreamError}
use Rattle.amqp_c.specs.declared.canonicalize.CallProgress.{CallProgress}
use Rattle.amqp_c.specs.declared.in_place.Rewrite.{Rewrite}
use Rattle.amqp_c.specs.declared.in_place.Rewrite.TheVariants as rewrites
use Rattle.amqp_c.specs.Scans.{error_at}

-- ---- a run of canonical frames

-- So many bytes in front are whole frames within the limit, each encoded by its canonical bytes,
-- and no more bytes in front are that.
pub record IsCanonicalRun (m : ℕ) (bytes : List ℕ) (used : ℕ) : Type 0 where
  pub within : used ≤ length bytes
  pub frames : List Frame
  pub sequence : SpellsFrames strict (Some m) (take used bytes) frames
  pub canonical : take used bytes ≡ canon_frames frames
  pub longest : (other rest : List ℕ) (fs : List Frame) → bytes ≡ other ++ rest
      → SpellsFrames strict (Some m) other fs → length other ≤ used

-- ---- one frame

-- a frame is in front, which is not canonical, and it has more bytes than this
pub record LacksRoom (level : Level) (m : ℕ) (bytes : List ℕ) (room : ℕ) : Type 0 where
  pub frame : Frame
  pub used : ℕ
  pub found : judge_frame level (Some m) bytes ≡ took frame used
  pub changed : take used bytes ≢ canon frame
  pub longer : room < used

-- The frame in front is canonical; or its canonical bytes stand in front of the spare buffer; or
-- they would go there, and the buffer is shorter than the frame.
-- Else the error says why no frame is in front.
abbrev pub Rewrites : Level → ℕ → List ℕ → List ℕ → List ℕ → Result Rewrite StreamError → Type 0
Rewrites level m bytes old new (Ok (rewrites.Kept used)) =
    (frame : Frame) × (judge_frame level (Some m) bytes ≡ took frame used)
    × (take used bytes ≡ canon frame)
Rewrites level m bytes old new (Ok (rewrites.Spare used count)) =
    (frame : Frame) × (judge_frame level (Some m) bytes ≡ took frame used)
    × (count ≤ length new) × (take count new ≡ canon frame) × (count ≤ used)
Rewrites level m bytes old new (Ok rewrites.NoRoom) = LacksRoom level m bytes (length old)
Rewrites level m bytes old new (Err error) =
    error_at (judge_frame level (Some m) bytes) ≡ Some error

-- ---- a buffer

-- The frames in front are used up to one that is not canonical and is longer than the spare buffer.
-- Their canonical bytes stand at the front of the buffer, which is kept after them.
pub record StopsBefore (level : Level) (m room : ℕ)
    (old new : List ℕ) (progress : CallProgress) : Type 0 where
  pub frames : List Frame
  pub sequence : front level (Some m) old ≡ frames ++ front level (Some m) (drop progress.used old)
  pub after : place level (Some m) old ≡ place level (Some m) (drop progress.used old)
  pub put : Puts old new 0 (canon_frames frames) progress.written
  pub no_longer : progress.written ≤ progress.used
  pub next : LacksRoom level m (drop progress.used old) room
  pub unused : progress.unused ≡ 0
