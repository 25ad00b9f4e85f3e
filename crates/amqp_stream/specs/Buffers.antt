-- An output buffer, and what is put into it.
use Rattle.std.specs.Prelude.{◌≡◌, ℕ, List, ◌++◌, take, Result, Ok, Err}
use Rattle.amqp_types.specs.Judging.{Fault}
use Rattle.amqp_types.specs.Answers.{RefusesWhole}
use Rattle.amqp_types.specs.declared.errors.ParserError.{ParserError}
use Rattle.amqp_wire.specs.Frames.{Frame}
use Rattle.amqp_wire.specs.Canonical.{canon}

-- a buffer of so many bytes, and those that are pending in it
pub record Buffered : Type 0 where
  pub room : ℕ
  pub bytes : List ℕ

-- the canonical bytes of the frame that a payload is are put after the pending ones, or it is
-- reported why the payload is none
abbrev pub Adds : List ℕ → List ℕ → Result Frame Fault → Result (Unit {0}) ParserError → Type 0
Adds before after read (Ok done) =
    (frame : Frame) × (read ≡ Ok frame) × (after ≡ before ++ canon frame)
Adds before after read (Err error) = RefusesWhole error read × (after ≡ before)

-- the same of the first bytes of a buffer, and the place after them
abbrev pub AddsAt : List ℕ → List ℕ → ℕ → Result Frame Fault → Result ℕ ParserError → Type 0
AddsAt old new len read (Ok end) =
    (frame : Frame) × (read ≡ Ok frame) × (take end new ≡ take len old ++ canon frame)
AddsAt old new len read (Err error) = RefusesWhole error read × (new ≡ old)
