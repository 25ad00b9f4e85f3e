-- What frames and versions print as.
use Rattle.std.specs.Prelude.{ℕ, List, ◌++◌, codes}
use Rattle.std.specs.Fmt.{decimal}
use Rattle.amqp_wire.specs.declared.version.ProtocolVersion.{ProtocolVersion}
use Rattle.amqp_wire.specs.Frames.{Frame, Proto, Meth, Head, Body, Beat, BadBeat}

-- three numbers with points between them
abbrev pub numbers_text : ℕ → ℕ → ℕ → List ℕ
numbers_text major minor revision =
    decimal major ++ codes "." ++ decimal minor ++ codes "." ++ decimal revision

-- a version, as `0.9.1`
abbrev pub version_text : ProtocolVersion → List ℕ
version_text version = numbers_text version.major version.minor version.revision

-- a frame's kind, with the version of a protocol header, the class and method ids of a method, and
-- the channel of a bad heartbeat
abbrev pub frame_text : Frame → List ℕ
frame_text (Proto major minor revision) =
    codes "AMQPFrame::ProtocolHeader(" ++ numbers_text major minor revision ++ codes ")"
frame_text (Meth channel m) =
    codes "AMQPFrame::Method(" ++ decimal m.class ++ codes ", " ++ decimal m.id ++ codes ")"
frame_text (Head channel header) = codes "AMQPFrame::Header"
frame_text (Body channel content) = codes "AMQPFrame::Body"
frame_text Beat = codes "AMQPFrame::Heartbeat"
frame_text (BadBeat channel) = codes "AMQPFrame::InvalidHeartbeat(" ++ decimal channel ++ codes ")"
