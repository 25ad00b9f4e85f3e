-- Laws of frames that were made: they are decoded to what they were made of.
use Rattle.std.specs.Prelude.{◌≡◌, ◌≤◌, ℕ, List, length, Option, Some, Ok}
use Rattle.amqp_types.specs.Judging.{took, IsBytes}
use Rattle.amqp_types.specs.Levels.{Level}
use Rattle.amqp_wire.specs.Canonical.{canon, size_of, read_back}
use Rattle.amqp_wire.specs.Frames.{Frame}
use Rattle.amqp_wire.specs.Laws.{IsFrameHeld}
use Rattle.amqp_wire.specs.Spelling.{IsWithin}
use Rattle.amqp_wire.specs.Verdicts.{judge_frame}
use Rattle.amqp_put.specs.Made.{MakesBytes}
use Rattle.amqp_put.specs.MadeFrames.{MakesFrame}
use Rattle.amqp_entries.specs.declared.errors.PutError.{PutError}

-- What was put at the front of a slice is decoded to the frame, at each level and within each limit
-- that it is within, whatever follows in the slice.
abbrev pub MadeBytesReadBack : Type 0
MadeBytesReadBack = (level : Level) (limit : Option ℕ) (old new : List ℕ) (n : ℕ) (frame : Frame)
    (flaw : Option PutError)
    → IsBytes new → IsFrameHeld frame → size_of frame ≡ Ok (length (canon frame))
    → IsWithin limit (canon frame)
    → MakesBytes old new flaw (canon frame) (Ok n)
    → judge_frame level limit new ≡ took (read_back frame) n

-- What was made for a peer that takes payloads of so many bytes is within that limit, and within
-- each larger one.
abbrev pub MadeFramesAreWithin : Type 0
MadeFramesAreWithin = (old new : List ℕ) (max n limit : ℕ) (frame : Frame) (flaw : Option PutError)
    → max ≤ limit → MakesFrame old new max frame flaw (Ok n) → IsWithin (Some limit) (canon frame)
