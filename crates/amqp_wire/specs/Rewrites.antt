-- Putting the canonical bytes of a borrowed frame: what is returned, and what it leaves.
use Rattle.std.specs.Prelude.{◌≡◌, ℕ, List, Result, Ok, Err}
use Rattle.amqp_types.specs.Judging.{Fault}
use Rattle.amqp_types.specs.Answers.{RefusesWhole}
use Rattle.amqp_types.specs.Writing.{Puts}
use Rattle.amqp_types.specs.declared.errors.ParserError.{ParserError}
use Rattle.amqp_wire.specs.Frames.{Frame}
use Rattle.amqp_wire.specs.Canonical.{canon}

-- the canonical bytes of the frame are put at the place, or the payload's fault is returned and
-- the slice stays
abbrev pub Rewrites : List ℕ → List ℕ → ℕ → Result Frame Fault → Result ℕ ParserError → Type 0
Rewrites old new at read (Ok end) =
    (frame : Frame) × (read ≡ Ok frame) × Puts old new at (canon frame) end
Rewrites old new at read (Err error) = RefusesWhole error read × (new ≡ old)
