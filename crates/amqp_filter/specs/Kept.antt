-- Which frames of a sequence are kept: in a message its opening decides of all its frames.
use Rattle.std.specs.Prelude.{Bool, true, false, List, [], ◌∷◌, ◌++◌, if◌then◌else◌}
use Rattle.amqp_wire.specs.declared.outline.FrameOutline.{FrameOutline}
use Rattle.amqp_wire.specs.Frames.{Frame, channel_id_of}
use Rattle.amqp_wire.specs.Outlines.{outline_of}
use Rattle.amqp_turns.specs.Units.{Begun, Nothing, Opened, Headed, is_content}
use Rattle.amqp_turns.specs.Stands.{State, At, Lost}
use Rattle.amqp_turns.specs.InTurn.{state_on}

-- The frame that decides of one more frame of a channel's content, after what has begun there: the
-- opening of the message that it continues, or itself (AMQP 0-9-1, section 4.2.6).
abbrev pub opening_or : Begun Frame → Frame → Frame
opening_or Nothing frame = frame
opening_or (Opened opening) frame = opening
opening_or (Headed opening header bodies) frame = opening

-- the same after what has come on a channel; of a frame that is not in turn itself
abbrev pub content_decider : State Frame → Frame → Frame
content_decider (At begun) frame = opening_or begun frame
content_decider Lost frame = frame

-- the same of any frame; of one that stands outside of all content itself
abbrev pub decider : State Frame → Frame → Frame
decider state frame = if is_content (outline_of frame) then content_decider state frame else frame

-- a frame after these is kept: the frame that decides of it passes the test
abbrev pub is_kept : (FrameOutline → Bool) → List Frame → Frame → Bool
is_kept keeps earlier frame =
    keeps (outline_of (decider (state_on earlier (channel_id_of frame)) frame))

-- a frame, where it is kept
abbrev pub if_kept : Bool → Frame → List Frame
if_kept true frame = frame ∷ []
if_kept false frame = []

-- those of some frames that are kept, after those that came before them
abbrev pub kept_after : (FrameOutline → Bool) → List Frame → List Frame → List Frame
kept_after keeps earlier [] = []
kept_after keeps earlier (frame ∷ frames) =
    if_kept (is_kept keeps earlier frame) frame ++ kept_after keeps (earlier ++ frame ∷ []) frames

-- those of a sequence of frames that are kept, in order
abbrev pub kept_of : (FrameOutline → Bool) → List Frame → List Frame
kept_of keeps frames = kept_after keeps [] frames
