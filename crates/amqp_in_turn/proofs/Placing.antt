-- The frame that a payload is: its channel, and its mark by what is kept of the channel that stands before the payload.
use Rattle.amqp_turns.specs as turns
use Rattle.amqp_wire.specs as wire
use Rattle.std.proofs.lemmas.Grind.{common_steps}
use Rattle.std.proofs.Common.{arith, ◌≡◌, ◌≢◌, ℕ, false, List, [], ◌∷◌, inl, inr, ◌⊎◌, Option, Some, Ok}
use Rattle.std.proofs.lemmas.Bool.{cases_eq, eq-eqb, ne_eqb}
use wire.declared.frame_type.AMQPFrameType.{AMQPFrameType}
use wire.declared.frame_type.AMQPFrameType.TheVariants as kinds
use wire.declared.outline.FrameOutline.{FrameOutline}
use wire.Frames.{Raw, Frame, channel_id_of}
use wire.Outlines.{outline_of}
use wire.Verdicts.{decode_raw, decode_payload}
use Rattle.amqp_wire.proofs.Encoded.{read_as}
use turns.declared.mark.Mark.{Mark}
use turns.declared.mark.Mark.TheVariants as marks
use turns.declared.progress.Progress.{Progress}
use turns.InTurn.{greatest}
use turns.Steps.{mark_after}
use turns.Units.{is_content}
use Rattle.amqp_in_turn.proofs.Judging.{passed_mark}

-- ---- frames outside of content

proto_outside : (channel : ℕ) (payload : List ℕ) (frame : Frame)
    → decode_payload kinds.ProtocolHeader channel payload ≡ Ok frame → is_content (outline_of frame) ≡ false
unfolding decode_payload
proto_outside channel (a ∷ b ∷ c ∷ []) frame h = grind (arith, common_steps)
proto_outside channel payload frame h = absurd cc

beat_outside : (channel : ℕ) (payload : List ℕ) (frame : Frame)
    → decode_payload kinds.Heartbeat channel payload ≡ Ok frame → is_content (outline_of frame) ≡ false
unfolding decode_payload
beat_outside channel payload frame h = grind (arith, common_steps, cases_eq, eq-eqb, ne_eqb)

-- a protocol header or a heartbeat
abbrev pub IsOutsideType : AMQPFrameType → Type 0
IsOutsideType kind = (kind ≡ kinds.ProtocolHeader) ⊎ (kind ≡ kinds.Heartbeat)

-- A protocol header or a heartbeat, also one on a channel, stands outside of all content.
pub outside_is : (raw : Raw) (frame : Frame) → IsOutsideType raw.kind → decode_raw raw ≡ Ok frame → is_content (outline_of frame) ≡ false
outside_is raw frame (inl is) h = grind (arith, common_steps, proto_outside)
outside_is raw frame (inr is) h = grind (arith, common_steps, beat_outside)

-- ---- the channel of a frame

-- a frame is on the channel that stands before its payload, or outside of all content
data IsPlaced (channel : ℕ) (frame : Frame) : Type 0 where
  here : channel_id_of frame ≡ channel → IsPlaced channel frame
  outside : is_content (outline_of frame) ≡ false → IsPlaced channel frame

placed_as : (kind : AMQPFrameType) (channel : ℕ) (payload : List ℕ) (frame : Frame) → decode_payload kind channel payload ≡ Ok frame → IsPlaced channel frame
unfolding decode_payload
placed_as kinds.ProtocolHeader channel payload frame h = outside (proto_outside channel payload frame h)
placed_as kinds.Heartbeat channel payload frame h = outside (beat_outside channel payload frame h)
placed_as kind channel payload frame h = grind (arith, common_steps, read_as)

placed : (raw : Raw) (frame : Frame) → decode_raw raw ≡ Ok frame → IsPlaced raw.channel frame
placed raw frame h = placed_as raw.kind raw.channel raw.payload frame h

-- ---- marks

-- the outline is that of the frame, where the payload is one
abbrev pub IsOutlineOf : Raw → FrameOutline → Type 0
IsOutlineOf raw outline = (frame : Frame) → decode_raw raw ≡ Ok frame → Some outline ≡ Some (outline_of frame)

-- An outline that stands for the frame that a payload is, is its outline.
pub same_outline : (raw : Raw) (outline : FrameOutline) (frame : Frame) → IsOutlineOf raw outline → decode_raw raw ≡ Ok frame → outline ≡ outline_of frame
same_outline raw outline frame is h = let same = is frame h in cc

module _ (progress : ℕ → Option Progress) (raw : Raw) (outline : FrameOutline) (mark : Mark) (frame : Frame) (is : IsOutlineOf raw outline)
    (e : mark ≡ mark_after greatest (progress raw.channel) outline) (h : decode_raw raw ≡ Ok frame) where
  here_marked : mark_after greatest (progress raw.channel) (outline_of frame) ≡ mark
  here_marked = grind (arith, common_steps, same_outline)

  -- The mark by what is kept of the channel that stands before the payload is that of the frame by its channel.
  pub marked_by : mark_after greatest (progress (channel_id_of frame)) (outline_of frame) ≡ mark
  marked_by = grind (arith, common_steps, here_marked, passed_mark, placed)

  -- A frame that is not passed is on that channel.
  pub channel_by : mark ≢ marks.Passed → channel_id_of frame ≡ raw.channel
  channel_by other = grind (arith, common_steps, here_marked, passed_mark, placed)
