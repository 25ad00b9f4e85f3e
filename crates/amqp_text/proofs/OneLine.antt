-- A line is read as its frame.
use Rattle.std.proofs.Common.{◌≡◌, ℕ, List, length, None, Ok, ap, sym, subst, ◌∙◌}
use Rattle.amqp_types.specs.Levels.{plain}
use Rattle.amqp_types.specs.Judging.{took}
use Rattle.amqp_types.proofs.Took.{value_took}
use Rattle.amqp_frame.specs.declared.frame.AMQPFrame.{AMQPFrame}
use Rattle.amqp_frame.specs.Frames.{Frame, frame_of}
use Rattle.amqp_wire.specs.Canonical.{canon}
use Rattle.amqp_wire.specs.Verdicts.{judge_frame}
use Rattle.amqp_wire.proofs.Spelled.{verdict-spelled}
use Rattle.amqp_wire.proofs.Strictness.{frame_from_strict}
use Rattle.amqp_lines.specs.Lines.{line}
use Rattle.amqp_text.specs.OneLine.{IsStrictWithin, IsLineOf, ParsesLine}

-- A line with the canonical bytes of a frame is parsed as the frame that these bytes are decoded to.
pub parsed : {m : ℕ} {text canonical bytes : List ℕ} (frame : AMQPFrame) (n : ℕ) → IsLineOf m text canonical
    → bytes ≡ canonical → judge_frame plain None bytes ≡ took (frame_of frame) n → ParsesLine m text (Ok frame)
parsed {m = m} {text = text} frame n h same found =
    let f = h.frame in
    let encodes = frame_from_strict plain (canon f) f h.strict_within.is_strict.encodes in
    let whole = verdict-spelled plain None (canon f) f encodes tt in
    let is : f ≡ frame_of frame =
    value_took f (frame_of frame) (length (canon f)) n (sym whole ∙ ap (judge_frame plain None) (sym (same ∙ h.is_canonical)) ∙ found) in
    subst (λ (g : Frame). IsStrictWithin m g × (text ≡ line g)) is (h.strict_within, h.is_line)
