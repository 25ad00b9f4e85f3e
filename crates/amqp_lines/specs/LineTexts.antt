-- What is put for a frame: its canonical bytes, its line, or why neither.
use Rattle.std.specs.Prelude.{◌≡◌, ◌++◌, List, ℕ, Result, Ok, Err, IsOk}
use Rattle.amqp_types.specs.Levels.{plain}
use Rattle.amqp_types.specs.declared.errors.GenError.{GenError}
use Rattle.amqp_types.specs.declared.errors.GenError.TheVariants as refusals
use Rattle.amqp_wire.specs.Frames.{Frame, Raw}
use Rattle.amqp_wire.specs.Canonical.{canon, size_of}
use Rattle.amqp_wire.specs.Verdicts.{decode_raw}
use Rattle.amqp_stream.specs.declared.errors.StreamError.{StreamError}
use Rattle.amqp_stream.specs.Errors.{Cause, faulty, out_of_memory, cause_of}
use Rattle.amqp_stream.specs.Writing.{IsFaulty}
use Rattle.amqp_lines.specs.Lines.{line}

-- why a borrowed frame has no line: a fault of its payload, or memory ran out
abbrev pub HasNoLine : Raw → Cause → Type 0
HasNoLine raw (faulty bad) = IsFaulty plain raw bad
HasNoLine raw out_of_memory = Unit {0}
HasNoLine raw cause = ⊥

-- the canonical bytes of the frame that a borrowed one is, or why there are none
abbrev pub PutsCanonical : Raw → List ℕ → Result (Unit {0}) StreamError → Type 0
PutsCanonical raw canonical (Ok done) =
    (frame : Frame) × (decode_raw raw ≡ Ok frame) × (canonical ≡ canon frame)
PutsCanonical raw canonical (Err error) = HasNoLine raw (cause_of error)

-- the line of that frame
abbrev pub PutsLine : Raw → List ℕ → Result (Unit {0}) StreamError → Type 0
PutsLine raw text (Ok done) = (frame : Frame) × (decode_raw raw ≡ Ok frame) × (text ≡ line frame)
PutsLine raw text (Err error) = HasNoLine raw (cause_of error)

-- its canonical bytes and its line
abbrev pub PutsBoth : Raw → List ℕ → List ℕ → Result (Unit {0}) StreamError → Type 0
PutsBoth raw canonical text (Ok done) =
    (frame : Frame) × (decode_raw raw ≡ Ok frame) × (canonical ≡ canon frame) × (text ≡ line frame)
PutsBoth raw canonical text (Err error) = HasNoLine raw (cause_of error)

-- ---- frames that are to be written

-- The line of a frame that has a size is appended. A refusal is that of measuring the frame, or
-- memory, and leaves the vector as it was.
abbrev pub AppendsLine : List ℕ → List ℕ → Frame → Result (Unit {0}) GenError → Type 0
AppendsLine old new frame (Ok done) = IsOk (size_of frame) × (new ≡ old ++ line frame)
AppendsLine old new frame (Err refusals.NoMemory) = new ≡ old
AppendsLine old new frame (Err error) = (size_of frame ≡ Err error) × (new ≡ old)
