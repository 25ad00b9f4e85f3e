-- Frames outside of content.
use Rattle.std.proofs.Common.{◌≡◌, false, refl}
use Rattle.amqp_wire.specs.Frames.{Frame}
use Rattle.amqp_wire.specs.Outlines.{outline_of}
use Rattle.amqp_turns.specs.Stands.{State}
use Rattle.amqp_turns.specs.Units.{is_content}
use Rattle.amqp_filter.specs.Kept.{decider}

-- A frame that stands outside of content decides of itself.
pub itself_decides : (state : State Frame) (frame : Frame) → is_content (outline_of frame) ≡ false → decider state frame ≡ frame
itself_decides state frame h = rw h refl
