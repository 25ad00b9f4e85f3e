-- What the frames of a channel give, and what is kept of a channel.
use Rattle.std.specs.Prelude.{◌≡◌, ℕ, ◌==◌, List, [], ◌∷◌, ◌++◌, length}
use Rattle.std.specs.Prelude.{Option, Some, None, if◌then◌else◌}
use Rattle.amqp_types.specs.Methods.{Method}
use Rattle.amqp_types.specs.ContentHeaders.{ContentHeader}
use Rattle.amqp_wire.specs.Frames.{Frame, channel_id_of}
use Rattle.amqp_wire.specs.Outlines.{outline_of}
use Rattle.amqp_turns.specs.declared.fault.ContentFault.{ContentFault}
use Rattle.amqp_turns.specs.declared.mark.Mark.{Mark}
use Rattle.amqp_turns.specs.declared.mark.Mark.TheVariants as marks
use Rattle.amqp_turns.specs.declared.progress.Progress.{Progress}
use Rattle.amqp_turns.specs.declared.progress.Progress.TheVariants as progresses
use Rattle.amqp_turns.specs.Units.{Begun, Nothing, Opened, Headed}
use Rattle.amqp_turns.specs.Answers.{Answer, Alone, Within, Ends, Wrong, IsLastAnswer}
use Rattle.amqp_turns.specs.Stands.{State, At, Lost, Stands, kept_at}
use Rattle.amqp_turns.specs.Messages.{Content, method_in, header_in, bytes_of, joined, content_with}
use Rattle.amqp_turns.specs.Steps.{mark_after}

-- ---- outcomes

-- what a frame gives: it is passed, held, completes a message, or is wrong
pub data OutcomeView : Type 0 where
  passed : (frame : Frame) → OutcomeView
  held : OutcomeView
  done : (content : Content) → OutcomeView
  wrong : (fault : ContentFault) → OutcomeView

-- A method that stands alone is passed, the last frame of a message gives the message, and each
-- other one is held.
abbrev pub answer_outcome : Answer Frame → OutcomeView
answer_outcome (Alone frame) = passed frame
answer_outcome (Within begun frame) = held
answer_outcome (Ends begun frame) = done (content_with begun frame)
answer_outcome (Wrong fault) = wrong fault

-- ---- what is kept of a channel

-- an opening, its content header if it has come, and the joined bytes of its bodies; or that
-- a fault has come
pub data Kept : Type 0 where
  message : (opening : Method) (header : Option ContentHeader) (body : List ℕ) → Kept
  fault : Kept

-- what is kept of a begun unit
abbrev pub begun_kept : Begun Frame → Option Kept
begun_kept Nothing = None
begun_kept (Opened opening) = Some (message (method_in opening) None [])
begun_kept (Headed opening header bodies) =
    Some (message (method_in opening) (Some (header_in header)) (joined bodies))

-- what is kept of a state
abbrev pub kept_of : State Frame → Option Kept
kept_of (At begun) = begun_kept begun
kept_of Lost = Some fault

-- what is kept stands for these frames of one channel
pub record AssemblerStands (max : ℕ) (frames : List Frame) (kept : Option Kept) : Type 0 where
  pub state : State Frame
  pub stands : Stands outline_of max frames state
  pub is : kept ≡ kept_of state

-- the last of these frames of one channel gives this
pub record IsOutcomeOf (max : ℕ) (frames : List Frame) (outcome : OutcomeView) : Type 0 where
  pub answer : Answer Frame
  pub last : IsLastAnswer outline_of max frames answer
  pub is : outcome ≡ answer_outcome answer

-- what is kept of a channel before and after one more frame, and what the frame gives
pub record Pushes (max : ℕ) (before after : Option Kept)
    (frame : Frame) (outcome : OutcomeView) : Type 0 where
  pub gives : (frames : List Frame) → AssemblerStands max frames before
      → IsOutcomeOf max (frames ++ frame ∷ []) outcome
  pub stands : (frames : List Frame) → AssemblerStands max frames before
      → AssemblerStands max (frames ++ frame ∷ []) after

-- an assembler as callers see it: the greatest size of a body, and what is kept of each channel of
-- which something is
pub record Assembling : Type 0 where
  pub max_body : ℕ
  pub channels : List (ℕ × Kept)

-- a push of a frame, by what an assembler keeps of the frame's channel
abbrev pub PushesIn : Assembling → Assembling → Frame → OutcomeView → Type 0
PushesIn old new frame outcome =
    Pushes old.max_body (kept_at old.channels (channel_id_of frame))
    (kept_at new.channels (channel_id_of frame)) frame outcome

-- ---- the step of an assembler

-- how far what is kept has come
abbrev pub progress_kept : Kept → Progress
progress_kept (message opening None body) = progresses.Opened
progress_kept (message opening (Some header) body) =
    progresses.Headed header.body_size (length body)
progress_kept fault = progresses.Faulted

-- the same where nothing may be kept
abbrev pub kept_progress : Option Kept → Option Progress
kept_progress None = None
kept_progress (Some kept) = Some (progress_kept kept)

-- what is kept of a message, with its content header; nothing is added to a fault, or where
-- nothing is kept
abbrev pub with_header : Option Kept → ContentHeader → Option Kept
with_header None header = None
with_header (Some (message opening before body)) header = Some (message opening (Some header) body)
with_header (Some fault) header = Some fault

-- the same with more body bytes, after those that it has
abbrev pub with_bytes : Option Kept → List ℕ → Option Kept
with_bytes None bytes = None
with_bytes (Some (message opening header body)) bytes =
    Some (message opening header (body ++ bytes))
with_bytes (Some fault) bytes = Some fault

-- a message whose content header has come
abbrev pub IsHeaded : Kept → Type 0
IsHeaded (message opening (Some header) body) = Unit {0}
IsHeaded (message opening None body) = ⊥
IsHeaded fault = ⊥

-- the same where nothing may be kept
abbrev pub IsHeadedThere : Option Kept → Type 0
IsHeadedThere (Some kept) = IsHeaded kept
IsHeadedThere None = ⊥

-- the whole message that is kept of a channel, and `held` where no content header has come
abbrev pub whole_kept : ℕ → Option Kept → OutcomeView
whole_kept channel (Some (message opening (Some header) body)) =
    done (record { channel = channel; opening = opening; properties = header.options; body = body })
whole_kept channel (Some (message opening None body)) = held
whole_kept channel (Some fault) = held
whole_kept channel None = held

-- what a frame gives, by its mark and what was kept: a content header of size 0, or the body that
-- reaches the size, gives the whole message
abbrev pub marked_outcome : Option Kept → Frame → Mark → OutcomeView
marked_outcome kept frame marks.Passed = passed frame
marked_outcome kept frame marks.Opening = held
marked_outcome kept frame marks.Header =
    if 0 == (header_in frame).body_size
    then whole_kept (channel_id_of frame) (with_header kept (header_in frame)) else held
marked_outcome kept frame (marks.Body before after size) =
    if after == size then whole_kept (channel_id_of frame) (with_bytes kept (bytes_of frame))
    else held
marked_outcome kept frame (marks.Fault bad) = wrong bad

-- what is kept after a frame, by its mark and what was kept: nothing of a message that it
-- completes, and of a fault that it has come
abbrev pub kept_marked : Option Kept → Frame → Mark → Option Kept
kept_marked kept frame marks.Passed = kept
kept_marked kept frame marks.Opening = Some (message (method_in frame) None [])
kept_marked kept frame marks.Header =
    if 0 == (header_in frame).body_size then None else with_header kept (header_in frame)
kept_marked kept frame (marks.Body before after size) =
    if after == size then None else with_bytes kept (bytes_of frame)
kept_marked kept frame (marks.Fault bad) = Some fault

-- the mark of a frame, by what is kept of its channel
abbrev pub mark_kept : ℕ → Option Kept → Frame → Mark
mark_kept max kept frame = mark_after max (kept_progress kept) (outline_of frame)

-- what a frame of content gives, and what is kept after it, where it has this mark
pub record TakesFrame (before after : Option Kept) (frame : Frame)
    (mark : Mark) (outcome : OutcomeView) : Type 0 where
  pub gives : outcome ≡ marked_outcome before frame mark
  pub keeps : after ≡ kept_marked before frame mark

-- a message has begun
abbrev pub IsMessage : Option Kept → Type 0
IsMessage (Some (message opening header body)) = Unit {0}
IsMessage (Some fault) = ⊥
IsMessage None = ⊥

-- the same of the channel of a frame, in an assembler before and after
abbrev pub TakesIn : Assembling → Assembling → Frame → Mark → OutcomeView → Type 0
TakesIn old new frame mark outcome =
    TakesFrame (kept_at old.channels (channel_id_of frame))
    (kept_at new.channels (channel_id_of frame)) frame mark outcome

-- the same, where the mark is the one that the frame has by what was kept of its channel
abbrev pub TakesMarked : Assembling → Assembling → Frame → OutcomeView → Type 0
TakesMarked old new frame outcome =
    TakesIn old new frame
    (mark_kept old.max_body (kept_at old.channels (channel_id_of frame)) frame) outcome
