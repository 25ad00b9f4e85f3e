-- What a tracker marks frames with, and what it keeps of a channel.
use Rattle.std.specs.Prelude.{◌≡◌, ℕ, ◌+◌, List, Option, Some, None}
use Rattle.std.specs.Prelude.{◌++◌, [], ◌∷◌, Bool, true, false}
use Rattle.amqp_wire.specs.declared.outline.FrameOutline.{FrameOutline}
use Rattle.amqp_wire.specs.declared.outline.FrameOutline.TheVariants as outlines
use Rattle.amqp_wire.specs.Outlines.{outline_channel}
use Rattle.amqp_turns.specs.declared.mark.Mark.{Mark}
use Rattle.amqp_turns.specs.declared.mark.Mark.TheVariants as marks
use Rattle.amqp_turns.specs.declared.progress.Progress.{Progress}
use Rattle.amqp_turns.specs.declared.progress.Progress.TheVariants as kept
use Rattle.amqp_turns.specs.Units.{Begun, Nothing, Opened, Headed, size_in, bytes_in}
use Rattle.amqp_turns.specs.Answers.{Answer, Alone, Within, Ends, Wrong, IsLastAnswer}
use Rattle.amqp_turns.specs.Stands.{State, At, Lost, Stands, kept_at}

-- the frames of a tracker are outlines
abbrev pub itself : FrameOutline → FrameOutline
itself outline = outline

-- of a begun unit: whether its content header has come, and then the size in it and how many
-- body bytes have
abbrev pub begun_progress : {X : Type 0} → (X → FrameOutline) → Begun X → Option Progress
begun_progress outline Nothing = None
begun_progress outline (Opened opening) = Some kept.Opened
begun_progress outline (Headed opening header bodies) =
    Some (kept.Headed (size_in (outline header)) (bytes_in outline bodies))

-- the same of a state; that a fault has come is kept too
abbrev pub progress_of : {X : Type 0} → (X → FrameOutline) → State X → Option Progress
progress_of outline (At begun) = begun_progress outline begun
progress_of outline Lost = Some kept.Faulted

-- the number of body bytes that a begun unit has
abbrev pub begun_bytes : {X : Type 0} → (X → FrameOutline) → Begun X → ℕ
begun_bytes outline Nothing = 0
begun_bytes outline (Opened opening) = 0
begun_bytes outline (Headed opening header bodies) = bytes_in outline bodies

-- the size in the content header of a begun unit, 0 where none has come
abbrev pub begun_size : {X : Type 0} → (X → FrameOutline) → Begun X → ℕ
begun_size outline Nothing = 0
begun_size outline (Opened opening) = 0
begun_size outline (Headed opening header bodies) = size_in (outline header)

-- a frame of a message by its kind, and a body with the number of body bytes before and after it
-- and the size of all
abbrev pub mark_in : ℕ → ℕ → FrameOutline → Mark
mark_in before size (outlines.Method channel class id) = marks.Opening
mark_in before size (outlines.Header channel class n) = marks.Header
mark_in before size (outlines.Body channel count) = marks.Body before (before + count) size
mark_in before size outlines.ProtocolHeader = marks.Passed
mark_in before size (outlines.Heartbeat channel) = marks.Passed

-- the mark of a frame by its outcome
abbrev pub mark_of : {X : Type 0} → (X → FrameOutline) → Answer X → Mark
mark_of outline (Alone x) = marks.Passed
mark_of outline (Within begun x) =
    mark_in (begun_bytes outline begun) (begun_size outline begun) (outline x)
mark_of outline (Ends begun x) =
    mark_in (begun_bytes outline begun) (begun_size outline begun) (outline x)
mark_of outline (Wrong fault) = marks.Fault fault

-- a tracker as callers see it: the greatest size of a body, and what is kept of each channel of
-- which something is
pub record Tracked : Type 0 where
  pub max_body : ℕ
  pub channels : List (ℕ × Progress)

-- what a tracker keeps of a channel stands for these outlines
pub record TrackerStands (max : ℕ) (outlines : List FrameOutline)
    (progress : Option Progress) : Type 0 where
  pub state : State FrameOutline
  pub stands : Stands itself max outlines state
  pub is : progress ≡ progress_of itself state

-- the last of these outlines has this mark
pub record IsMarked (max : ℕ) (outlines : List FrameOutline) (mark : Mark) : Type 0 where
  pub answer : Answer FrameOutline
  pub last : IsLastAnswer itself max outlines answer
  pub is : mark ≡ mark_of itself answer

-- what a tracker keeps of a channel whose frames these are, and the mark of one more frame
pub record Tracks (max : ℕ) (before after : Option Progress)
    (outline : FrameOutline) (mark : Mark) : Type 0 where
  pub marked : (outlines : List FrameOutline) → TrackerStands max outlines before
      → IsMarked max (outlines ++ outline ∷ []) mark
  pub stands : (outlines : List FrameOutline) → TrackerStands max outlines before
      → TrackerStands max (outlines ++ outline ∷ []) after

-- the same of the channel of an outline
abbrev pub TracksIn : Tracked → Tracked → FrameOutline → Mark → Type 0
TracksIn old new outline mark =
    Tracks old.max_body (kept_at old.channels (outline_channel outline))
    (kept_at new.channels (outline_channel outline)) outline mark

-- a begun unit, and not a fault
abbrev pub is_begun : Progress → Bool
is_begun kept.Opened = true
is_begun (kept.Headed size seen) = true
is_begun kept.Faulted = false
