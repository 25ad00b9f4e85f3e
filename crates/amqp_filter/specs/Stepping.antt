-- How filtering goes from frame to frame: what is written for a frame, and what is kept after it.
use Rattle.std.specs.Prelude.{◌≡◌, ℕ, Bool, true, false, List, Option, Result, Ok, Err}
use Rattle.std.specs.FinMap as finite
use Rattle.amqp_types.specs.Levels.{plain}
use Rattle.amqp_wire.specs.declared.frame_type.AMQPFrameType.{AMQPFrameType}
use Rattle.amqp_wire.specs.declared.frame_type.AMQPFrameType.TheVariants as kinds
use Rattle.amqp_wire.specs.declared.outline.FrameOutline.{FrameOutline}
use Rattle.amqp_wire.specs.Frames.{Raw, Frame, channel_id_of}
use Rattle.amqp_wire.specs.Outlines.{outline_of}
use Rattle.amqp_wire.specs.Verdicts.{decode_raw}
use Rattle.amqp_turns.specs.declared.mark.Mark.{Mark}
use Rattle.amqp_turns.specs.declared.mark.Mark.TheVariants as marks
use Rattle.amqp_turns.specs.Steps.{mark_after, progress_after}
use Rattle.amqp_select.specs.Matching.{decides}
use Rattle.amqp_stream.specs.declared.errors.RunError.{RunError}
use Rattle.amqp_stream.specs.Decisions.{RefusesTo}
use Rattle.amqp_stream.specs.Steps.{Manner}
use Rattle.amqp_in_turn.specs.declared.errors.Refusal.{Refusal}
use Rattle.amqp_in_turn.specs.declared.errors.Refusal.TheVariants as refusals
use Rattle.amqp_in_turn.specs.Ending.{least_channel, refused_at_end}
use Rattle.amqp_in_turn.specs.Judging.{given}
use Rattle.amqp_filter.specs.declared.messages.Open.{Open}
use Rattle.amqp_filter.specs.declared.message_filter.MessageFilter.{MessageFilter}
use Rattle.amqp_turns.specs.InTurn.{greatest}
use Rattle.amqp_filter.specs.Held.{progress_in, kept_in, held_with, set_at}

-- ---- one frame

-- Whether a frame with this mark is kept: in a message what was decided at its opening.
abbrev pub kept_marked : (FrameOutline → Bool) → Option Open → Frame → Mark → Bool
kept_marked keeps held frame marks.Passed = keeps (outline_of frame)
kept_marked keeps held frame marks.Opening = keeps (outline_of frame)
kept_marked keeps held frame marks.Header = kept_in held
kept_marked keeps held frame (marks.Body before after size) = kept_in held
kept_marked keeps held frame (marks.Fault bad) = false

-- what is kept of a message after one more frame of it
abbrev pub held_more : Bool → Option Open → Frame → Option Open
held_more kept held frame =
    held_with (progress_after greatest (progress_in held) (outline_of frame)) kept

-- What is kept of a channel after a frame with this mark: how far its message has come, and what
-- was decided of it. A frame of no message leaves that.
abbrev pub held_marked : (FrameOutline → Bool) → Option Open → Frame → Mark → Option Open
held_marked keeps held frame marks.Passed = held
held_marked keeps held frame marks.Opening = held_more (keeps (outline_of frame)) held frame
held_marked keeps held frame marks.Header = held_more (kept_in held) held frame
held_marked keeps held frame (marks.Body before after size) = held_more (kept_in held) held frame
held_marked keeps held frame (marks.Fault bad) = held_more false held frame

-- the mark of a frame, by what is kept of its channel
abbrev pub mark_held : Option Open → Frame → Mark
mark_held held frame = mark_after greatest (progress_in held) (outline_of frame)

-- what is kept of a channel
abbrev pub held_at : MessageFilter → ℕ → Option Open
held_at s channel = finite.get s.messages channel

-- the writer once this is kept of a channel
abbrev pub with_held : MessageFilter → ℕ → Option Open → MessageFilter
with_held s channel held = record s { messages = set_at s.messages channel held }

-- A step by the mark of the frame: a content fault is refused, and after any other frame what is
-- kept of its channel is replaced.
abbrev pub step_marked : MessageFilter → Option Open
    → Frame → Mark → Result (List ℕ × MessageFilter) Refusal
step_marked s held frame (marks.Fault bad) = Err (refusals.BadContent bad)
step_marked s held frame mark =
    Ok (
      given (kept_marked (decides s.rules) held frame mark) frame,
      with_held s (channel_id_of frame) (held_marked (decides s.rules) held frame mark),
    )

-- A step of filtering: of all that is kept, only what is kept of the channel of the frame matters,
-- and only that changes.
abbrev pub step_filtering : MessageFilter → Frame → Result (List ℕ × MessageFilter) Refusal
step_filtering s frame =
    step_marked s (held_at s (channel_id_of frame)) frame
    (mark_held (held_at s (channel_id_of frame)) frame)

-- ---- calls of the writer

-- A step that gives a frame, where it is kept, and keeps this of its channel.
abbrev pub StepsTo : MessageFilter → MessageFilter → Raw → Bool → Type 0
StepsTo s t raw kept =
    (frame : Frame) → decode_raw raw ≡ Ok frame → step_filtering s frame ≡ Ok (given kept frame, t)

-- ---- a stream

-- the type of frames at which memory may run out: after a method something may be kept of its
-- channel for the first time
abbrev pub is_method_type : AMQPFrameType → Bool
is_method_type kinds.Method = true
is_method_type kinds.ProtocolHeader = false
is_method_type kinds.Header = false
is_method_type kinds.Body = false
is_method_type kinds.Heartbeat = false

-- no message may be open at the end of a stream
abbrev pub end_filtering : MessageFilter → Option Refusal
end_filtering s = refused_at_end (least_channel s.messages)

-- filtering as a manner of writing: frames are read at level plain, and a content fault, or a
-- message that is open at the end of input, is refused
abbrev pub filtering : Manner MessageFilter Refusal
filtering = record {
  level = plain;
  step = step_filtering;
  end = end_filtering;
  wants = is_method_type;
  compact = true;
}

-- A whole frame that is kept, or is not, and what the writer keeps then; or why it is refused.
abbrev pub KeepsBy : MessageFilter → MessageFilter → Raw → Result Bool (RunError Refusal) → Type 0
KeepsBy s t raw (Ok kept) = StepsTo s t raw kept
KeepsBy s t raw (Err error) = RefusesTo filtering s t raw error
