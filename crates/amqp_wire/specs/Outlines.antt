-- What rules and trackers ask of a frame: its kind, channel, ids and sizes.
use Rattle.std.specs.Prelude.{ℕ, ◌≤◌, List, take, drop, length}
use Rattle.std.specs.Int.{w64, from_be_bytes}
use Rattle.amqp_types.specs.Tidiness.{short_at}
use Rattle.amqp_wire.specs.declared.frame_type.AMQPFrameType.{AMQPFrameType}
use Rattle.amqp_wire.specs.declared.frame_type.AMQPFrameType.TheVariants as kinds
use Rattle.amqp_wire.specs.declared.outline.FrameOutline.{FrameOutline}
use Rattle.amqp_wire.specs.declared.outline.FrameOutline.TheVariants as outlines
use Rattle.amqp_wire.specs.Frames.{Frame, Raw, Proto, Meth, Head, Body, Beat, BadBeat}

-- the kind, channel, ids and sizes of a frame
abbrev pub outline_of : Frame → FrameOutline
outline_of (Proto major minor revision) = outlines.ProtocolHeader
outline_of (Meth channel m) = outlines.Method channel m.class m.id
outline_of (Head channel header) = outlines.Header channel header.class_id header.body_size
outline_of (Body channel content) = outlines.Body channel (length content)
outline_of Beat = outlines.Heartbeat 0
outline_of (BadBeat channel) = outlines.Heartbeat channel

-- the channel, 0 for a protocol header
abbrev pub outline_channel : FrameOutline → ℕ
outline_channel outlines.ProtocolHeader = 0
outline_channel (outlines.Method channel class id) = channel
outline_channel (outlines.Header channel class size) = channel
outline_channel (outlines.Body channel count) = channel
outline_channel (outlines.Heartbeat channel) = channel

-- the number in eight bytes at a place
abbrev pub long_long_at : ℕ → List ℕ → ℕ
long_long_at place bytes = from_be_bytes w64 (take 8 (drop place bytes))

-- the outline of a frame of this type, by its payload
abbrev pub outline_at : AMQPFrameType → ℕ → List ℕ → FrameOutline
outline_at kinds.ProtocolHeader channel payload = outlines.ProtocolHeader
outline_at kinds.Method channel payload =
    outlines.Method channel (short_at 0 payload) (short_at 2 payload)
outline_at kinds.Header channel payload =
    outlines.Header channel (short_at 0 payload) (long_long_at 4 payload)
outline_at kinds.Body channel payload = outlines.Body channel (length payload)
outline_at kinds.Heartbeat channel payload = outlines.Heartbeat channel

-- the outline that the front of a borrowed frame's payload gives: of a whole payload,
-- that of the frame
abbrev pub outline_front : Raw → FrameOutline
outline_front raw = outline_at raw.kind raw.channel raw.payload

-- the ids and sizes of a frame of this type are there
abbrev pub IsEnough : AMQPFrameType → List ℕ → Type 0
IsEnough kinds.ProtocolHeader payload = Unit {0}
IsEnough kinds.Method payload = 4 ≤ length payload
IsEnough kinds.Header payload = 12 ≤ length payload
IsEnough kinds.Body payload = Unit {0}
IsEnough kinds.Heartbeat payload = Unit {0}
