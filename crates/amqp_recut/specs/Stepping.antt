-- How recutting goes from frame to frame: what is written for a frame, and what is kept after it.
use Rattle.std.specs.Prelude.{ℕ, ◌==◌, Bool, true, false, List, [], ◌++◌, Option}
use Rattle.std.specs.Prelude.{Result, Ok, Err}
use Rattle.std.specs.FinMap as finite
use Rattle.amqp_types.specs.Levels.{plain}
use Rattle.amqp_wire.specs.declared.frame_type.AMQPFrameType.{AMQPFrameType}
use Rattle.amqp_wire.specs.declared.frame_type.AMQPFrameType.TheVariants as kinds
use Rattle.amqp_wire.specs.Frames.{Raw, Frame, channel_id_of}
use Rattle.amqp_wire.specs.Outlines.{outline_of}
use Rattle.amqp_wire.specs.Canonical.{canon, canon_frames}
use Rattle.amqp_turns.specs.declared.mark.Mark.{Mark}
use Rattle.amqp_turns.specs.declared.mark.Mark.TheVariants as marks
use Rattle.amqp_turns.specs.Messages.{bytes_of}
use Rattle.amqp_turns.specs.Splits.{frames_given, left_over}
use Rattle.amqp_turns.specs.Steps.{mark_after, progress_after}
use Rattle.amqp_stream.specs.Steps.{Manner}
use Rattle.amqp_in_turn.specs.declared.errors.Refusal.{Refusal}
use Rattle.amqp_in_turn.specs.declared.errors.Refusal.TheVariants as refusals
use Rattle.amqp_in_turn.specs.Ending.{least_channel, refused_at_end}
use Rattle.amqp_recut.specs.declared.recutter.Recutter.{Recutter}
use Rattle.amqp_turns.specs.InTurn.{greatest}
use Rattle.amqp_recut.specs.Held.{Held, progress_in, kept_in, held_with, set_at}

-- ---- one frame

-- The bytes written for a frame with this mark: for a body, a body frame for each whole piece of
-- the kept bytes and its own, and at the end of the body one for the rest too; for a content fault
-- none; for any other frame its canonical bytes.
abbrev pub written_marked : ℕ → Option Held → Frame → Mark → List ℕ
written_marked size held frame (marks.Body before after n) =
    canon_frames
    (frames_given size (channel_id_of frame) (after == n) (kept_in held ++ bytes_of frame))
written_marked size held frame marks.Passed = canon frame
written_marked size held frame marks.Opening = canon frame
written_marked size held frame marks.Header = canon frame
written_marked size held frame (marks.Fault bad) = []

-- The bytes kept after a frame with this mark: of a body, those after the last whole piece; at an
-- opening, a content header or a content fault none.
-- A frame of no message leaves them as they are. (At the end of a body `held_with` keeps nothing.)
abbrev pub bytes_kept : ℕ → Option Held → Frame → Mark → List ℕ
bytes_kept size held frame (marks.Body before after n) =
    left_over size (kept_in held ++ bytes_of frame)
bytes_kept size held frame marks.Passed = kept_in held
bytes_kept size held frame marks.Opening = []
bytes_kept size held frame marks.Header = []
bytes_kept size held frame (marks.Fault bad) = []

-- what is kept of a channel
abbrev pub held_at : Recutter → ℕ → Option Held
held_at s channel = finite.get s.messages channel

-- the mark of a frame, by what is kept of its channel
abbrev pub mark_held : Option Held → Frame → Mark
mark_held held frame = mark_after greatest (progress_in held) (outline_of frame)

-- what is kept of the channel of a frame after it: how far its content has come, and the bytes of
-- the body not written yet; nothing between messages
abbrev pub held_after : ℕ → Option Held → Frame → Option Held
held_after size held frame =
    held_with (progress_after greatest (progress_in held) (outline_of frame))
    (bytes_kept size held frame (mark_held held frame))

-- A step by the mark of the frame: a content fault is refused, and after any other frame what is
-- kept of its channel is replaced.
abbrev pub step_marked : Recutter → Option Held → Frame → Mark → Result (List ℕ × Recutter) Refusal
step_marked s held frame (marks.Fault bad) = Err (refusals.BadContent bad)
step_marked s held frame mark = Ok (
  written_marked s.size held frame mark,
  record s { messages = set_at s.messages (channel_id_of frame) (held_after s.size held frame) },
)

-- A step of recutting: of all that is kept, only what is kept of the channel of the frame matters,
-- and only that changes.
abbrev pub step_recutting : Recutter → Frame → Result (List ℕ × Recutter) Refusal
step_recutting s frame =
    step_marked s (held_at s (channel_id_of frame)) frame
    (mark_held (held_at s (channel_id_of frame)) frame)

-- a whole body frame
abbrev pub body_raw : ℕ → List ℕ → Raw
body_raw channel payload = record { kind = kinds.Body; channel = channel; payload = payload }

-- ---- a stream

-- the types of frames at which memory may run out: after a method, a content header or a body
-- something may be kept of its channel
abbrev pub is_content_type : AMQPFrameType → Bool
is_content_type kinds.Method = true
is_content_type kinds.Header = true
is_content_type kinds.Body = true
is_content_type kinds.ProtocolHeader = false
is_content_type kinds.Heartbeat = false

-- nothing may be kept at the end of a stream
abbrev pub end_recutting : Recutter → Option Refusal
end_recutting s = refused_at_end (least_channel s.messages)

-- recutting as a manner of writing: frames are read at level plain, and a content fault, or content
-- that is open at the end of input, is refused
abbrev pub recutting : Manner Recutter Refusal
recutting = record {
  level = plain;
  step = step_recutting;
  end = end_recutting;
  wants = is_content_type;
  compact = true;
}
