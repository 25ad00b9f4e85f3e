-- Sequences of frames whose content is in turn on each channel (AMQP 0-9-1, section 4.2.6).
use Rattle.std.specs.Prelude.{◌≡◌, ◌≢◌, ℕ, ◌-◌, ◌^◌, ◌≤◌, List, [], ◌∷◌, ◌++◌, length}
use Rattle.amqp_wire.specs.Frames.{Frame, channel_id_of}
use Rattle.amqp_wire.specs.Outlines.{outline_of}
use Rattle.amqp_turns.specs.declared.fault.ContentFault.{ContentFault}
use Rattle.amqp_turns.specs.Units.{Begun, Nothing, of_channel, IsInTurn}
use Rattle.amqp_turns.specs.Answers.{Wrong, IsLastAnswer}
use Rattle.amqp_turns.specs.Stands.{State, At, Stands}
use Rattle.amqp_turns.specs.Steps.{run_state}

-- the greatest size that a content header can announce
abbrev pub greatest : ℕ
greatest = 2 ^ 64 - 1

-- the frames of each channel are finished units and at most one begun unit, so that no frame has
-- a content fault
abbrev pub AreInTurn : List Frame → Type 0
AreInTurn frames =
    (channel : ℕ) → IsInTurn outline_of greatest (of_channel outline_of channel frames)

-- the longest prefix of some frames that is in turn
pub record IsLongestInTurn (all frames : List Frame) : Type 0 where
  pub rest : List Frame
  pub parts : all ≡ frames ++ rest
  pub in_turn : AreInTurn frames
  pub longest : (front back : List Frame) → all ≡ front ++ back
      → AreInTurn front → length front ≤ length frames

-- these frames are not all, and the next has this fault
pub record IsNextFault (all frames : List Frame) (fault : ContentFault) : Type 0 where
  pub next : Frame
  pub rest : List Frame
  pub parts : all ≡ frames ++ next ∷ rest
  pub wrong : IsLastAnswer outline_of greatest
      (of_channel outline_of (channel_id_of next) (frames ++ next ∷ [])) (Wrong fault)

-- the frames of a channel end in a begun unit
pub record EndsBegun (frames : List Frame) (channel : ℕ) : Type 0 where
  pub begun : Begun Frame
  pub some : begun ≢ Nothing
  pub stands : Stands outline_of greatest (of_channel outline_of channel frames) (At begun)

-- the frames of some channel end in a begun unit
abbrev pub IsOpen : List Frame → Type 0
IsOpen frames = (channel : ℕ) × EndsBegun frames channel

-- the frames of no channel end in a begun unit
abbrev pub NoneIsOpen : List Frame → Type 0
NoneIsOpen frames =
    (channel : ℕ) → Stands outline_of greatest (of_channel outline_of channel frames) (At Nothing)

-- What has come of a channel's content. (It is the one state that stands for the frames of the
-- channel: a law of contents.)
abbrev pub state_on : List Frame → ℕ → State Frame
state_on frames channel =
    run_state outline_of greatest (At Nothing) (of_channel outline_of channel frames)
