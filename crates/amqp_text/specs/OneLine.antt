-- One line by itself, read as a typed frame. What speaks of no typed frame is passed on.
use Rattle.std.specs.Prelude.{◌≡◌, ℕ, List, Result, Ok, Err}
use Rattle.amqp_frame.specs.declared.frame.AMQPFrame.{AMQPFrame}
use Rattle.amqp_frame.specs.Frames.{frame_of}
use Rattle.amqp_lines.specs.Lines.{line}
pub use Rattle.amqp_lines.specs.OneLine.{IsStrictWithin, IsNoLine, IsLineOf}
pub use Rattle.amqp_lines.specs.OneLine.{AppendsCanonical, AppendsRawLine}
use Rattle.amqp_lines.specs.declared.errors.TextError.{TextError}
use Rattle.amqp_lines.specs.declared.errors.TextError.TheVariants as texts

-- The text is the line of this frame. (There is one frame at most: equal lines are those
-- of equal frames.)
abbrev pub ParsesLine : ℕ → List ℕ → Result AMQPFrame TextError → Type 0
ParsesLine m text (Ok frame) = IsStrictWithin m (frame_of frame) × (text ≡ line (frame_of frame))
ParsesLine m text (Err texts.BadText) = IsNoLine m text
ParsesLine m text (Err texts.NoMemory) = Unit {0}
