-- A sequence of frames whose messages have their bodies cut anew.
use Rattle.std.specs.Prelude.{ℕ, ◌+◌, ◌==◌, Bool, false, List, [], ◌∷◌, ◌++◌, map, drop, length}
use Rattle.amqp_wire.specs.Frames.{Frame, Proto, Meth, Head, Body, Beat, BadBeat, channel_id_of}
use Rattle.amqp_wire.specs.Outlines.{outline_of}
use Rattle.amqp_turns.specs.Units.{Nothing, Opened, Headed, size_in, bytes_in}
use Rattle.amqp_turns.specs.Stands.{State, At, Lost}
use Rattle.amqp_turns.specs.Messages.{joined}
use Rattle.amqp_turns.specs.Splits.{cut_count, pieces_given}
use Rattle.amqp_turns.specs.InTurn.{state_on}

-- The pieces that a body frame completes: of the bytes of its message so far, and its own, those
-- that were not complete before it. At the end of the message the last may be shorter.
abbrev pub pieces_brought : (size : ℕ) (ends : Bool) (before content : List ℕ) → List (List ℕ)
pieces_brought size ends before content =
    drop (cut_count size false (length before)) (pieces_given size ends (before ++ content))

-- What a body frame is replaced by: in a message, whose content header announces how long the whole
-- body is, a body frame for each piece that it completes; a body that is not in turn stays (AMQP
-- 0-9-1, section 4.2.6).
abbrev pub body_recut : (size channel : ℕ) → State Frame → List ℕ → List Frame
body_recut size channel (At (Headed opening header bodies)) content =
    map (λ bytes. Body channel bytes) (pieces_brought size
    (bytes_in outline_of bodies + length content == size_in (outline_of header))
    (joined bodies) content)
body_recut size channel (At Nothing) content = Body channel content ∷ []
body_recut size channel (At (Opened opening)) content = Body channel content ∷ []
body_recut size channel Lost content = Body channel content ∷ []

-- What a frame is replaced by, after what has come on its channel. Only a message's bodies change.
abbrev pub frame_recut : ℕ → State Frame → Frame → List Frame
frame_recut size state (Body channel content) = body_recut size channel state content
frame_recut size state (Proto major minor revision) = Proto major minor revision ∷ []
frame_recut size state (Meth channel m) = Meth channel m ∷ []
frame_recut size state (Head channel header) = Head channel header ∷ []
frame_recut size state Beat = Beat ∷ []
frame_recut size state (BadBeat channel) = BadBeat channel ∷ []

-- frames recut, after those that came before them
abbrev pub recut_after : ℕ → List Frame → List Frame → List Frame
recut_after size earlier [] = []
recut_after size earlier (frame ∷ frames) =
    frame_recut size (state_on earlier (channel_id_of frame)) frame
    ++ recut_after size (earlier ++ frame ∷ []) frames

-- a sequence of frames recut
abbrev pub recut : ℕ → List Frame → List Frame
recut size frames = recut_after size [] frames
