-- Typed frames as contracts see them. What speaks of no typed frame is passed on.
pub use Rattle.amqp_properties.specs.Headers.{header_of}
use Rattle.amqp_protocol.specs.Classes.{method_of}
pub use Rattle.amqp_wire.specs.Frames.{Frame, Proto, Meth, Head, Body, Beat}
pub use Rattle.amqp_wire.specs.Frames.{BadBeat, Raw, raw_as, raw_of, channel_id_of}
pub use Rattle.amqp_wire.specs.Frames.{IsHeader, beat_on, IsTyped, OwnsMemory}
use Rattle.amqp_frame.specs.declared.frame.AMQPFrame.{AMQPFrame}
use Rattle.amqp_frame.specs.declared.frame.AMQPFrame.TheVariants as frames

-- a frame as contracts see it
abbrev pub frame_of : AMQPFrame → Frame
frame_of (frames.ProtocolHeader version) = Proto version.major version.minor version.revision
frame_of (frames.Method channel class) = Meth channel (method_of class)
frame_of (frames.Header channel header) = Head channel (header_of header)
frame_of (frames.Body channel content) = Body channel content
frame_of frames.Heartbeat = Beat
frame_of (frames.InvalidHeartbeat channel) = BadBeat channel
