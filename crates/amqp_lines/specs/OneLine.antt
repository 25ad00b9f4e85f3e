-- One line by itself: whether a text is the line of a frame, and what calls on it return.
use Rattle.std.specs.Prelude.{◌≡◌, ◌≢◌, ℕ, List, ◌++◌, Some, Result, Ok, Err}
use Rattle.amqp_wire.specs.Frames.{Frame, Raw}
use Rattle.amqp_wire.specs.Verdicts.{decode_raw}
use Rattle.amqp_wire.specs.Spelling.{IsWithin}
use Rattle.amqp_wire.specs.Canonical.{canon}
use Rattle.amqp_stream.specs.declared.errors.StreamError.{StreamError}
use Rattle.amqp_stream.specs.Errors.{cause_of}
use Rattle.amqp_lines.specs.Laws.{IsStrict}
use Rattle.amqp_lines.specs.Lines.{line}
use Rattle.amqp_lines.specs.LineTexts.{HasNoLine}
use Rattle.amqp_lines.specs.declared.errors.TextError.{TextError}
use Rattle.amqp_lines.specs.declared.errors.TextError.TheVariants as texts

-- a frame that its canonical bytes encode strictly, within a limit on payloads
pub record IsStrictWithin (m : ℕ) (frame : Frame) : Type 0 where
  pub is_strict : IsStrict frame
  pub within : IsWithin (Some m) (canon frame)

-- the text is the line of no frame within the limit
abbrev pub IsNoLine : ℕ → List ℕ → Type 0
IsNoLine m text = (frame : Frame) → IsStrictWithin m frame → text ≢ line frame

-- a frame by its line and its canonical bytes
pub record IsLineOf (m : ℕ) (text canonical : List ℕ) : Type 0 where
  pub frame : Frame
  pub strict_within : IsStrictWithin m frame
  pub is_line : text ≡ line frame
  pub is_canonical : canonical ≡ canon frame

-- ---- what calls on one line return

-- The canonical bytes of the frame of a line are appended. An error leaves the vector as it was.
abbrev pub AppendsCanonical : ℕ → List ℕ → List ℕ → List ℕ → Result (Unit {0}) TextError → Type 0
AppendsCanonical m text old new (Ok done) =
    (canonical : List ℕ) × IsLineOf m text canonical × (new ≡ old ++ canonical)
AppendsCanonical m text old new (Err texts.BadText) = IsNoLine m text × (new ≡ old)
AppendsCanonical m text old new (Err texts.NoMemory) = new ≡ old

-- The line of a borrowed frame is appended. An error is the fault of its payload, or memory, and
-- leaves the vector as it was.
abbrev pub AppendsRawLine : Raw → List ℕ → List ℕ → Result (Unit {0}) StreamError → Type 0
AppendsRawLine raw old new (Ok done) =
    (frame : Frame) × (decode_raw raw ≡ Ok frame) × (new ≡ old ++ line frame)
AppendsRawLine raw old new (Err error) = HasNoLine raw (cause_of error) × (new ≡ old)
