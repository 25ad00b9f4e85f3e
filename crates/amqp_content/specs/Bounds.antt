-- How many bytes the messages that are not complete hold, and which frame would pass
-- a bound on them.
use Rattle.std.specs.Prelude.{◌≡◌, ℕ, ◌+◌, ◌<◌, false, ◌==◌, zero, suc, List, length}
use Rattle.std.specs.Prelude.{Option, Some, None, if◌then◌else◌}
use Rattle.amqp_wire.specs.Frames.{Frame, Proto, Meth, Head, Body, Beat, BadBeat, channel_id_of}
use Rattle.amqp_turns.specs.declared.mark.Mark.{Mark}
use Rattle.amqp_turns.specs.declared.mark.Mark.TheVariants as marks
use Rattle.amqp_turns.specs.Stands.{kept_at}
use Rattle.amqp_frame.specs.declared.frame.AMQPFrame.{AMQPFrame}
use Rattle.amqp_frame.specs.Frames.{frame_of}
use Rattle.amqp_turns.specs.Outcomes.{Kept, message, fault, Assembling, TakesMarked, mark_kept}
use Rattle.amqp_turns.specs.Units.{is_content}
use Rattle.amqp_wire.specs.Outlines.{outline_of}
use Rattle.amqp_content.specs.Outcomes.{outcome_of}
use Rattle.amqp_messages.specs.declared.outcome.Outcome.{Outcome}
use Rattle.amqp_messages.specs.declared.outcome.Outcome.TheVariants as outcomes
use Rattle.amqp_content.specs.declared.bounded.Taken.{Taken}
use Rattle.amqp_content.specs.declared.bounded.Taken.TheVariants as takens

-- the body bytes that are kept of a channel
abbrev pub body_bytes : Option Kept → ℕ
body_bytes None = 0
body_bytes (Some (message opening header body)) = length body
body_bytes (Some fault) = 0

-- those of all channels below this number
abbrev pub bytes_below : ℕ → List (ℕ × Kept) → ℕ
bytes_below zero channels = 0
bytes_below (suc n) channels = bytes_below n channels + body_bytes (kept_at channels n)

-- how many channels there may be: the number of a channel has two bytes
unfoldable pub channel_count : ℕ
channel_count = 65536

-- the body bytes of all messages that are not complete
unfoldable pub open_bytes : Assembling → ℕ
open_bytes assembling = bytes_below channel_count assembling.channels

-- what a body with this mark adds to them: nothing where it completes its message,
-- or is not in turn
abbrev pub added_by : ℕ → Mark → ℕ
added_by count (marks.Body before after size) = if after == size then 0 else count
added_by count marks.Passed = 0
added_by count marks.Opening = 0
added_by count marks.Header = 0
added_by count (marks.Fault bad) = 0

-- what a frame adds, by what is kept of its channel; only bodies add bytes
abbrev pub added_to : ℕ → Option Kept → Frame → ℕ
added_to max kept (Body channel content) =
    added_by (length content) (mark_kept max kept (Body channel content))
added_to max kept (Proto major minor revision) = 0
added_to max kept (Meth channel m) = 0
added_to max kept (Head channel header) = 0
added_to max kept Beat = 0
added_to max kept (BadBeat channel) = 0

-- the same in an assembler
abbrev pub adds : Assembling → Frame → ℕ
adds assembling frame =
    added_to assembling.max_body (kept_at assembling.channels (channel_id_of frame)) frame

-- the frame adds bytes, and with these there would be more than the bound
pub record Passes (bound : ℕ) (assembling : Assembling) (frame : Frame) : Type 0 where
  pub some : 0 < adds assembling frame
  pub more : bound < open_bytes assembling + adds assembling frame

-- a frame that does not pass the bound, and what it gives
pub record IsPushed (bound : ℕ) (old new : Assembling)
    (frame : AMQPFrame) (outcome : Outcome) : Type 0 where
  pub within : Passes bound old (frame_of frame) → ⊥
  pub outside : is_content (outline_of (frame_of frame)) ≡ false
      → (outcome ≡ outcomes.Passed frame) × (new ≡ old)
  pub takes : TakesMarked old new (frame_of frame) (outcome_of outcome)

-- a frame that passes the bound: it comes back, and all stays
pub record IsFull (bound : ℕ) (old new : Assembling) (frame back : AMQPFrame) : Type 0 where
  pub passes : Passes bound old (frame_of frame)
  pub back_is : back ≡ frame
  pub stays : new ≡ old

-- what becomes of a frame under a bound
abbrev pub TakesWithin : ℕ → Assembling → Assembling → AMQPFrame → Taken → Type 0
TakesWithin bound old new frame (takens.Pushed outcome) = IsPushed bound old new frame outcome
TakesWithin bound old new frame (takens.Full back) = IsFull bound old new frame back
