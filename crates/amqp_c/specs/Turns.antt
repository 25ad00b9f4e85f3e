-- Whose turn it is on a channel, by numbers.
use Rattle.std.specs.Prelude.{◌≡◌, ◌==◌, ◌&&◌, ◌<◌, ℕ, nat_lt, Bool, false, IsTrue, if◌then◌else◌}
use Rattle.std.specs.Prelude.{Option, Some, None, is_none, Result, Ok, Err}
use Rattle.amqp_wire.specs.declared.frame_type.AMQPFrameType.{AMQPFrameType}
use Rattle.amqp_wire.specs.declared.frame_type.AMQPFrameType.TheVariants as kinds
use Rattle.amqp_wire.specs.declared.outline.FrameOutline.{FrameOutline}
use Rattle.amqp_wire.specs.declared.outline.FrameOutline.TheVariants as outlines
use Rattle.amqp_turns.specs.declared.mark.Mark.{Mark}
use Rattle.amqp_turns.specs.declared.mark.Mark.TheVariants as marks
use Rattle.amqp_turns.specs.declared.progress.Progress.{Progress}
use Rattle.amqp_turns.specs.declared.progress.Progress.TheVariants as kept
use Rattle.amqp_turns.specs.Faults.{fault_number}
use Rattle.amqp_turns.specs.Marks.{Tracks}
use Rattle.amqp_turns.specs.Steps.{mark_after, progress_after}
use Rattle.amqp_turns.specs.Units.{is_content}
use Rattle.amqp_c.specs.declared.turns.ChannelState.{ChannelState}
use Rattle.amqp_c.specs.declared.turns.ChannelStep.{ChannelStep}
use Rattle.amqp_c.specs.declared.turns.NoStep.{NoStep}
use Rattle.amqp_c.specs.declared.turns.NoStep.TheVariants as none
use Rattle.amqp_c.specs.Statuses.{bad_argument, bad_content}

-- the numbers of what is kept where no content header has come
abbrev pub kept_plain : ℕ → ChannelState
kept_plain state = record { size = 0; seen = 0; state = state; unused = 0 }

-- the numbers of what is kept of a message whose content header has come
abbrev pub kept_headed : ℕ → ℕ → ChannelState
kept_headed size seen = record { size = size; seen = seen; state = 2; unused = 0 }

-- the numbers of what is kept of a channel
abbrev pub state_of : Option Progress → ChannelState
state_of None = kept_plain 0
state_of (Some kept.Opened) = kept_plain 1
state_of (Some (kept.Headed size seen)) = kept_headed size seen
state_of (Some kept.Faulted) = kept_plain 3

-- of a message whose content header has come fewer bytes have come than its body has
abbrev pub IsOpen : Option Progress → Type 0
IsOpen (Some (kept.Headed size seen)) = seen < size
IsOpen other = Unit {0}

-- what a number says is kept of a channel without a content header
abbrev pub plain_state : ℕ → Option (Option Progress)
plain_state state =
    if state == 0 then Some None
    else (if state == 1 then Some (Some kept.Opened)
    else (if state == 3 then Some (Some kept.Faulted) else None))

-- What numbers say is kept of a channel: of a message whose content header has come fewer bytes
-- than its body has.
abbrev pub progress_in : ChannelState → Option (Option Progress)
progress_in s =
    if s.unused == 0 then (
    if s.state == 2 && nat_lt s.seen s.size then Some (Some (kept.Headed s.size s.seen))
    else (if s.size == 0 && s.seen == 0 then plain_state s.state else None))
    else None

-- the outline of a frame by its numbers
abbrev pub outline_by : AMQPFrameType → ℕ → ℕ → ℕ → FrameOutline
outline_by kinds.ProtocolHeader class method size = outlines.ProtocolHeader
outline_by kinds.Method class method size = outlines.Method 0 class method
outline_by kinds.Header class method size = outlines.Header 0 class size
outline_by kinds.Body class method size = outlines.Body 0 size
outline_by kinds.Heartbeat class method size = outlines.Heartbeat 0

-- the mark of a frame on a channel of which this is kept, where its type is one
abbrev pub mark_if : ℕ → Option Progress → Option AMQPFrameType → ℕ → ℕ → ℕ → Result Mark NoStep
mark_if max progress None class method size = Err none.Type
mark_if max progress (Some kind) class method size =
    Ok (mark_after max progress (outline_by kind class method size))

-- the same where numbers say what is kept, if they do
abbrev pub mark_by : ℕ → Option (Option Progress)
    → Option AMQPFrameType → ℕ → ℕ → ℕ → Result Mark NoStep
mark_by max None kind class method size = Err none.State
mark_by max (Some progress) kind class method size = mark_if max progress kind class method size

-- a frame that is no part of a message, by what is kept after it
abbrev pub step_to : ChannelState → ChannelStep
step_to after = record {
  after = after;
  before = 0;
  up_to = 0;
  size = 0;
  part = 0;
  finished = false;
  fault = 0;
  status = 0;
  unused = 0;
}

-- a part of a message but a body, by what is kept after it
abbrev pub part_step : ℕ → Bool → ChannelState → ChannelStep
part_step part finished after = record (step_to after) { part = part; finished = finished }

-- a frame that is not in turn
abbrev pub fault_step : ℕ → ChannelStep
fault_step fault = record (step_to (kept_plain 3)) { fault = fault; status = bad_content }

-- no step
abbrev pub refused_step : ℕ → ChannelStep
refused_step status = record (step_to (kept_plain 0)) { status = status }

-- the numbers of a step: the part that the frame is, and what is kept after it; a message is
-- complete where nothing is kept of it
abbrev pub stepped : Mark → Option Progress → ChannelStep
stepped marks.Passed after = step_to (state_of after)
stepped marks.Opening after = part_step 1 false (state_of after)
stepped marks.Header after = part_step 2 (is_none after) (state_of after)
stepped (marks.Body before up_to size) after =
    record (part_step 3 (is_none after) (state_of after))
    { before = before; up_to = up_to; size = size }
stepped (marks.Fault fault) after =
    record (step_to (state_of after)) { fault = fault_number fault; status = bad_content }

-- One frame more: its mark, what is kept then, that these numbers can be given again, and that they
-- stand for all frames of the channel so far.
pub record Steps (max : ℕ) (progress : Option Progress)
    (outline : FrameOutline) (result : ChannelStep) : Type 0 where
  pub result_is : result
      ≡ stepped (mark_after max progress outline) (progress_after max progress outline)
  pub again : progress_in result.after ≡ Some (progress_after max progress outline)
  pub tracks : IsTrue (is_content outline)
      → Tracks max progress (progress_after max progress outline) outline
      (mark_after max progress outline)

-- a step where both the state and the type are known; a state that is none comes first
abbrev pub StepsOn : ℕ → Option (Option Progress)
    → Option AMQPFrameType → ℕ → ℕ → ℕ → ChannelStep → Type 0
StepsOn max None kind class method size result = result ≡ refused_step bad_argument
StepsOn max (Some progress) None class method size result = result ≡ refused_step 10
StepsOn max (Some progress) (Some kind) class method size result =
    Steps max progress (outline_by kind class method size) result
