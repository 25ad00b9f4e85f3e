-- Frames as contracts see them.
use Rattle.std.specs.Prelude.{ℕ, ◌+◌, ◌==◌, List, length, if◌then◌else◌}
use Rattle.amqp_types.specs.Methods.{Method}
use Rattle.amqp_types.specs.ContentHeaders.{ContentHeader}
use Rattle.amqp_wire.specs.declared.frame_type.AMQPFrameType.{AMQPFrameType}
use Rattle.amqp_wire.specs.declared.frame_type.AMQPFrameType.TheVariants as kinds
use Rattle.amqp_wire.specs.declared.raw_frame.AMQPRawFrame.{AMQPRawFrame}

-- A protocol header, a method, a content header, a body, a heartbeat on channel 0, and a heartbeat
-- on a channel where none belongs.
pub data Frame : Type 0 where
  Proto : (major minor revision : ℕ) → Frame
  Meth : (channel : ℕ) (m : Method) → Frame
  Head : (channel : ℕ) (header : ContentHeader) → Frame
  Body : (channel : ℕ) (content : List ℕ) → Frame
  Beat : Frame
  BadBeat : (channel : ℕ) → Frame

-- a whole frame whose payload is not decoded
pub record Raw : Type 0 where
  pub kind : AMQPFrameType
  pub channel : ℕ
  pub payload : List ℕ

-- a whole frame by its type, channel and payload
abbrev pub raw_as : AMQPFrameType → ℕ → List ℕ → Raw
raw_as kind channel payload = record { kind = kind; channel = channel; payload = payload }

-- a borrowed frame as contracts see it
abbrev pub raw_of : AMQPRawFrame → Raw
raw_of raw = record { kind = raw.frame_type; channel = raw.channel_id; payload = raw.payload.now }

-- how many bytes a frame has around a payload of n bytes (AMQP 0-9-1, sections 4.2.2 and 4.2.3)
abbrev pub length_around : AMQPFrameType → ℕ → ℕ
length_around kinds.ProtocolHeader n = 8
length_around kinds.Method n = n + 8
length_around kinds.Header n = n + 8
length_around kinds.Body n = n + 8
length_around kinds.Heartbeat n = n + 8

-- how many bytes a frame has
abbrev pub frame_length : Raw → ℕ
frame_length raw = length_around raw.kind (length raw.payload)

-- the channel, 0 for a protocol header and a heartbeat
abbrev pub channel_id_of : Frame → ℕ
channel_id_of (Proto major minor revision) = 0
channel_id_of (Meth channel m) = channel
channel_id_of (Head channel header) = channel
channel_id_of (Body channel content) = channel
channel_id_of Beat = 0
channel_id_of (BadBeat channel) = channel

-- the frame is a content header
abbrev pub IsHeader : Frame → Type 0
IsHeader (Head channel header) = Unit {0}
IsHeader frame = ⊥

-- a heartbeat on this channel
abbrev pub beat_on : ℕ → Frame
beat_on channel = if channel == 0 then Beat else BadBeat channel

-- a method or a content header, whose payload is decoded to more than bytes
abbrev pub IsTyped : AMQPFrameType → Type 0
IsTyped kinds.Method = Unit {0}
IsTyped kinds.Header = Unit {0}
IsTyped kinds.ProtocolHeader = ⊥
IsTyped kinds.Body = ⊥
IsTyped kinds.Heartbeat = ⊥

-- what a frame of this type is decoded to may own memory
abbrev pub OwnsMemory : AMQPFrameType → Type 0
OwnsMemory kinds.Body = Unit {0}
OwnsMemory kind = IsTyped kind
