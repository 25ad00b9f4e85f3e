-- One frame more on a channel, by what is kept of it.
use Rattle.std.specs.Prelude.{ℕ, ◌+◌, ◌==◌, nat_le, List, [], ◌∷◌, ◌++◌}
use Rattle.std.specs.Prelude.{Option, Some, None, if◌then◌else◌}
use Rattle.amqp_wire.specs.declared.outline.FrameOutline.{FrameOutline}
use Rattle.amqp_wire.specs.declared.outline.FrameOutline.TheVariants as outlines
use Rattle.amqp_turns.specs.declared.fault.ContentFault.TheVariants as faults
use Rattle.amqp_turns.specs.declared.mark.Mark.{Mark}
use Rattle.amqp_turns.specs.declared.mark.Mark.TheVariants as marks
use Rattle.amqp_turns.specs.declared.progress.Progress.{Progress}
use Rattle.amqp_turns.specs.declared.progress.Progress.TheVariants as kept
use Rattle.amqp_turns.specs.Units.{Begun, Nothing, Opened, Headed}
use Rattle.amqp_turns.specs.Units.{is_content, is_opening_id, size_in}
use Rattle.amqp_turns.specs.Answers.{Answer, Alone, Within, Ends, Wrong, fault_after}
use Rattle.amqp_turns.specs.Stands.{State, At, Lost}
use Rattle.amqp_turns.specs.Marks.{begun_progress}

-- ---- the mark of a frame, by what a tracker keeps

-- a content header after an opening: its class has to be basic, and its size allowed
abbrev pub header_mark : ℕ → ℕ → ℕ → Mark
header_mark max class size =
    if class == 60 then (if nat_le size max then marks.Header else marks.Fault faults.BodyTooLarge)
    else marks.Fault faults.WrongClass

-- a body in a message: it may not go beyond the size
abbrev pub body_mark : ℕ → ℕ → ℕ → Mark
body_mark size seen count =
    if nat_le (seen + count) size then marks.Body seen (seen + count) size
    else marks.Fault faults.BodyOverrun

-- a method between units: one that a content header has to follow opens a message, any
-- other is passed
abbrev pub method_mark : ℕ → ℕ → Mark
method_mark class id = if is_opening_id class id then marks.Opening else marks.Passed

-- a frame, by what is kept of its channel; other frames than content are passed
abbrev pub mark_after : ℕ → Option Progress → FrameOutline → Mark
mark_after max None (outlines.Method channel class id) = method_mark class id
mark_after max None (outlines.Header channel class size) = marks.Fault faults.UnexpectedHeader
mark_after max None (outlines.Body channel count) = marks.Fault faults.UnexpectedBody
mark_after max None outlines.ProtocolHeader = marks.Passed
mark_after max None (outlines.Heartbeat channel) = marks.Passed
mark_after max (Some kept.Opened) (outlines.Method channel class id) =
    marks.Fault faults.UnexpectedMethod
mark_after max (Some kept.Opened) (outlines.Header channel class size) = header_mark max class size
mark_after max (Some kept.Opened) (outlines.Body channel count) = marks.Fault faults.UnexpectedBody
mark_after max (Some kept.Opened) outlines.ProtocolHeader = marks.Passed
mark_after max (Some kept.Opened) (outlines.Heartbeat channel) = marks.Passed
mark_after max (Some (kept.Headed size seen)) (outlines.Method channel class id) =
    marks.Fault faults.UnexpectedMethod
mark_after max (Some (kept.Headed size seen)) (outlines.Header channel class n) =
    marks.Fault faults.UnexpectedHeader
mark_after max (Some (kept.Headed size seen)) (outlines.Body channel count) =
    body_mark size seen count
mark_after max (Some (kept.Headed size seen)) outlines.ProtocolHeader = marks.Passed
mark_after max (Some (kept.Headed size seen)) (outlines.Heartbeat channel) = marks.Passed
mark_after max (Some kept.Faulted) (outlines.Method channel class id) = marks.Fault faults.Faulted
mark_after max (Some kept.Faulted) (outlines.Header channel class size) = marks.Fault faults.Faulted
mark_after max (Some kept.Faulted) (outlines.Body channel count) = marks.Fault faults.Faulted
mark_after max (Some kept.Faulted) outlines.ProtocolHeader = marks.Passed
mark_after max (Some kept.Faulted) (outlines.Heartbeat channel) = marks.Passed

-- nothing is kept of a message whose body is complete
abbrev pub headed_progress : ℕ → ℕ → Option Progress
headed_progress size seen = if seen == size then None else Some (kept.Headed size seen)

-- what is kept after a frame, by its mark
abbrev pub progress_marked : Option Progress → FrameOutline → Mark → Option Progress
progress_marked progress outline marks.Passed = progress
progress_marked progress outline marks.Opening = Some kept.Opened
progress_marked progress outline marks.Header = headed_progress (size_in outline) 0
progress_marked progress outline (marks.Body before after size) = headed_progress size after
progress_marked progress outline (marks.Fault fault) = Some kept.Faulted

-- the same by the mark that the frame has
abbrev pub progress_after : ℕ → Option Progress → FrameOutline → Option Progress
progress_after max progress outline =
    progress_marked progress outline (mark_after max progress outline)

-- ---- the same with the frames themselves

-- a begun unit with one more frame
abbrev pub begun_with : {X : Type 0} → Begun X → X → Begun X
begun_with Nothing x = Opened x
begun_with (Opened opening) x = Headed opening x []
begun_with (Headed opening header bodies) x = Headed opening header (bodies ++ x ∷ [])

module _ {X : Type 0} (outline : X → FrameOutline) where
  -- the outcome of one frame more, and the state after it, by its mark
  abbrev pub step_marked : Begun X → X → Mark → Answer X × State X
  step_marked begun x marks.Passed = (Alone x, At begun)
  step_marked begun x marks.Opening = (Within begun x, At (begun_with begun x))
  step_marked begun x marks.Header =
      if 0 == size_in (outline x) then (Ends begun x, At Nothing)
      else (Within begun x, At (begun_with begun x))
  step_marked begun x (marks.Body before after size) =
      if after == size then (Ends begun x, At Nothing)
      else (Within begun x, At (begun_with begun x))
  step_marked begun x (marks.Fault fault) = (Wrong fault, Lost)

  -- the outcome of one frame more, and the state after it; a frame outside of all content would
  -- be a fault here
  abbrev pub step : ℕ → State X → X → Answer X × State X
  step max (At begun) x =
      if is_content (outline x)
      then step_marked begun x (mark_after max (begun_progress outline begun) (outline x))
      else (Wrong (fault_after begun (outline x)), Lost)
  step max Lost x = (Wrong faults.Faulted, Lost)

  -- the outcomes of frames, one step after another
  abbrev pub run_answers : ℕ → State X → List X → List (Answer X)
  run_answers max state [] = []
  run_answers max state (x ∷ xs) = (step max state x).0 ∷ run_answers max (step max state x).1 xs

  -- the state after these steps
  abbrev pub run_state : ℕ → State X → List X → State X
  run_state max state [] = state
  run_state max state (x ∷ xs) = run_state max (step max state x).1 xs
