-- One frame of a run: what is done for it, or how the run ends at it.
use Rattle.std.specs.Prelude.{◌≡◌, ◌⊎◌, ℕ, ◌+◌, ◌≤◌, List, ◌++◌, length, take}
use Rattle.std.specs.Prelude.{drop, Result, Ok, Err, IsTrue}
use Rattle.amqp_wire.specs.declared.looking.FrameLayout.{FrameLayout}
use Rattle.amqp_wire.specs.Canonical.{canon}
use Rattle.amqp_wire.specs.Frames.{Raw, Frame}
use Rattle.amqp_wire.specs.Looks.{laid_out}
use Rattle.amqp_wire.specs.Verdicts.{decode_raw}
use Rattle.amqp_stream.specs.declared.stretch.Stretch.{Stretch}
use Rattle.amqp_stream.specs.declared.errors.StreamError.TheVariants as errors
use Rattle.amqp_stream.specs.declared.errors.RunError.{RunError}
use Rattle.amqp_stream.specs.declared.errors.RunError.TheVariants as ends
use Rattle.amqp_stream.specs.declared.sink.SinkFault.{SinkFault}
use Rattle.amqp_stream.specs.Ends.{Store}
use Rattle.amqp_stream.specs.Steps.{Manner}
use Rattle.amqp_stream.specs.Writing.{WritesAll, Keeps}
use Rattle.amqp_stream.specs.Streaming.{Writes, WritesBy, EndsWith, error_ending}

-- What is pending and a stretch at the front of the held bytes, together.
abbrev pub gathered : List ℕ → ℕ → List ℕ → List ℕ
gathered pending passed held = pending ++ take passed held

-- The canonical bytes of the frame come after what was gathered before: they lie in the stretch, or
-- are pending. They are no more than the frame has, whose bytes are dropped or replaced by them.
-- The bytes after it come next.
pub record GathersFrame (layout : FrameLayout)
    (held_old held_new before after : List ℕ) (passed passed_after : ℕ) : Type 0 where
  pub frame : Frame
  pub is_whole : decode_raw (laid_out layout (drop passed held_old)) ≡ Ok frame
  pub within : passed_after ≤ length held_new
  pub rest : drop passed_after held_new ≡ drop layout.frame_len (drop passed held_old)
  pub no_longer : length (canon frame) ≤ layout.frame_len
  pub gathered_is : gathered after passed_after held_new
      ≡ gathered before passed held_old ++ canon frame

-- What is written for the frame was gathered, or it stands in the stretch. The bytes
-- after it come next.
pub record IsTaken {S E : Type 0} (w : Manner S E) (s t : S) (layout : FrameLayout)
    (old new : Store) (held_old held_new before after : List ℕ)
    (passed passed_after : ℕ) : Type 0 where
  pub within : passed_after ≤ length held_new
  pub rest : drop passed_after held_new ≡ drop layout.frame_len (drop passed held_old)
  pub compact : IsTrue w.compact
      → length (gathered after passed_after held_new)
      ≤ length (gathered before passed held_old) + layout.frame_len
  pub writes : Writes w s t (laid_out layout (drop passed held_old)) old new
      (gathered before passed held_old) (gathered after passed_after held_new)

-- A part of the front of what was gathered was written, and then the sink failed.
pub record IsUnflushed {E : Type 0} (old new : Store)
    (before : List ℕ) (error : RunError E) : Type 0 where
  pub bad : SinkFault
  pub written : WritesAll old new before (Err bad)
  pub is : error ≡ ends.Stream errors.WriteFault

-- The writer returned an error, and all that was gathered was written, if it could be.
pub record IsStopped {S E : Type 0} (w : Manner S E) (s t : S) (raw : Raw)
    (old new : Store) (before : List ℕ) (error : RunError E) : Type 0 where
  pub mid : Store
  pub later : Store
  pub pending : List ℕ
  pub after : List ℕ
  pub why : RunError E
  pub keeps : Keeps old mid before pending
  pub writes : WritesBy w s t raw mid later pending after (error_ending why)
  pub ends : EndsWith later new after why (Err error)

-- how one frame of a run is taken; where the run ends at it, it is held
abbrev pub TakesFrame : {S E : Type 0} → Manner S E → S → S → FrameLayout → Store → Store
    → List ℕ → List ℕ → List ℕ → List ℕ → Stretch → Result Stretch (RunError E) → Type 0
TakesFrame w s t layout old new held_old held_new before after stretch (Ok longer) =
    IsTaken w s t layout old new held_old held_new before after stretch.len longer.len
TakesFrame w s t layout old new held_old held_new before after stretch (Err error) =
    (IsUnflushed old new (gathered before stretch.len held_old) error
    ⊎ IsStopped w s t (laid_out layout (drop stretch.len held_old)) old new
    (gathered before stretch.len held_old) error)
    × (held_new ≡ drop stretch.len held_old)
