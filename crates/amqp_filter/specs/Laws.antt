-- What filtering keeps of a sequence of frames.
use Rattle.std.specs.Prelude.{◌≡◌, ℕ, Bool, true, not, List, if◌then◌else◌}
use Rattle.std.specs.List.{filter}
use Rattle.amqp_wire.specs.declared.outline.FrameOutline.{FrameOutline}
use Rattle.amqp_wire.specs.Frames.{Frame, Meth}
use Rattle.amqp_wire.specs.Outlines.{outline_of, outline_channel}
use Rattle.amqp_wire.specs.Canonical.{canon_frames}
use Rattle.amqp_turns.specs.Units.{Finished, Lone, Empty, Full, Begun, Nothing, Opened, Headed}
use Rattle.amqp_turns.specs.Units.{is_content, of_channel, frames_in, IsInTurn}
use Rattle.amqp_turns.specs.Messages.{Content}
pub use Rattle.amqp_turns.specs.Laws.{messages_on}
use Rattle.amqp_select.specs.declared.rule.Rule.{Rule}
use Rattle.amqp_select.specs.Matching.{decides, kept}
use Rattle.amqp_turns.specs.InTurn.{greatest, AreInTurn}
use Rattle.amqp_filter.specs.Kept.{kept_of}
use Rattle.amqp_filter.specs.Filtering.{kept_bytes}

-- ---- units

-- the first frame of a unit: a method alone, or the opening of a message
abbrev pub first_of : Finished Frame → Frame
first_of (Lone method) = method
first_of (Empty opening header) = opening
first_of (Full opening header bodies last) = opening

-- a unit is kept: its first frame passes the test
abbrev pub keeps_unit : (FrameOutline → Bool) → Finished Frame → Bool
keeps_unit keeps unit = keeps (outline_of (first_of unit))

-- the same of what has begun, of which nothing is left where its opening does not pass
abbrev pub begun_kept : (FrameOutline → Bool) → Begun Frame → Begun Frame
begun_kept keeps Nothing = Nothing
begun_kept keeps (Opened opening) = if keeps (outline_of opening) then Opened opening else Nothing
begun_kept keeps (Headed opening header bodies) =
    if keeps (outline_of opening) then Headed opening header bodies else Nothing

-- Of the units of a channel those are left, in order, that are kept, each with all its frames.
abbrev pub UnitsAreKept : Type 0
UnitsAreKept =
    (keeps : FrameOutline → Bool) (frames : List Frame) (channel : ℕ)
    (turn : IsInTurn outline_of greatest (of_channel outline_of channel frames))
    → of_channel outline_of channel (kept_of keeps frames)
    ≡ frames_in (filter (keeps_unit keeps) turn.units) (begun_kept keeps turn.begun)

-- ---- messages

-- the opening of a message passes the test
abbrev pub keeps_message : (FrameOutline → Bool) → Content → Bool
keeps_message keeps message = keeps (outline_of (Meth message.channel message.opening))

-- The messages of each channel are those whose openings pass, in order.
abbrev pub MessagesAreKept : Type 0
MessagesAreKept =
    (keeps : FrameOutline → Bool) (frames : List Frame) → AreInTurn frames → (channel : ℕ)
    → messages_on channel (kept_of keeps frames)
    ≡ filter (keeps_message keeps) (messages_on channel frames)

-- ---- all frames

-- the frames that stand outside of all content
abbrev pub outside_content : List Frame → List Frame
outside_content frames = filter (λ frame. not (is_content (outline_of frame))) frames

-- Of the frames outside of all content those are left, in order, that pass.
abbrev pub OthersAreKept : Type 0
OthersAreKept =
    (keeps : FrameOutline → Bool) (frames : List Frame)
    → outside_content (kept_of keeps frames)
    ≡ filter (λ frame. keeps (outline_of frame)) (outside_content frames)

-- Filtering keeps frames in turn.
abbrev pub StaysInTurn : Type 0
StaysInTurn =
    (keeps : FrameOutline → Bool) (frames : List Frame)
    → AreInTurn frames → AreInTurn (kept_of keeps frames)

-- Filtering twice by one test is filtering once.
abbrev pub TwiceIsOnce : Type 0
TwiceIsOnce =
    (keeps : FrameOutline → Bool) (frames : List Frame) → AreInTurn frames
    → kept_of keeps (kept_of keeps frames) ≡ kept_of keeps frames

-- Where each outline passes, what is written is what the canonicalizer writes.
abbrev pub AllIsWritten : Type 0
AllIsWritten =
    (keeps : FrameOutline → Bool) → ((outline : FrameOutline) → keeps outline ≡ true)
    → (frames : List Frame) → kept_bytes keeps frames ≡ canon_frames frames

-- Where what is decided of a frame depends on its channel alone, the frames that are kept are those
-- that are selected one by one.
abbrev pub SelectsAlike : Type 0
SelectsAlike =
    (rules : List Rule)
    → ((a b : FrameOutline) → outline_channel a ≡ outline_channel b
    → decides rules a ≡ decides rules b)
    → (frames : List Frame) → AreInTurn frames → kept_of (decides rules) frames ≡ kept rules frames
