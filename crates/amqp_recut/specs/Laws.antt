-- What recutting keeps of a sequence of frames, and what it makes of their bodies.
use Rattle.std.specs.Prelude.{◌≡◌, ℕ, ◌-◌, ◌<◌, ◌≤◌, min, List, ◌∷◌, ◌++◌, length}
use Rattle.amqp_wire.specs.Frames.{Frame, Body}
use Rattle.amqp_wire.specs.Outlines.{outline_of}
use Rattle.amqp_turns.specs.Units.{Nothing, Opened, Headed, of_channel, size_in, bytes_in}
use Rattle.amqp_turns.specs.Stands.{State, At, Lost}
pub use Rattle.amqp_turns.specs.Laws.{messages_on}
use Rattle.amqp_turns.specs.InTurn.{state_on, AreInTurn, NoneIsOpen}
use Rattle.amqp_recut.specs.Cuts.{recut}

-- a body that comes after these has the size, or is the last of its message and no longer
abbrev pub IsPiece : ℕ → State Frame → List ℕ → Type 0
IsPiece size (At (Headed opening header bodies)) content =
    (0 < length content)
    × (length content ≡ min size (size_in (outline_of header) - bytes_in outline_of bodies))
IsPiece size (At Nothing) content = ⊥
IsPiece size (At (Opened opening)) content = ⊥
IsPiece size Lost content = ⊥

-- each body is a piece of its message
abbrev pub AreCut : ℕ → List Frame → Type 0
AreCut size frames =
    (front back : List Frame) (channel : ℕ) (content : List ℕ)
    → frames ≡ front ++ Body channel content ∷ back → IsPiece size (state_on front channel) content

-- Recutting keeps frames in turn.
abbrev pub StaysInTurn : Type 0
StaysInTurn =
    (size : ℕ) (frames : List Frame) → 1 ≤ size → AreInTurn frames → AreInTurn (recut size frames)

-- The messages of each channel are the same before and after.
abbrev pub MessagesStay : Type 0
MessagesStay =
    (size : ℕ) (frames : List Frame) → 1 ≤ size → AreInTurn frames → (channel : ℕ)
    → messages_on channel (recut size frames) ≡ messages_on channel frames

-- Each body has the size, or is its message's last.
abbrev pub BodiesAreCut : Type 0
BodiesAreCut =
    (size : ℕ) (frames : List Frame) → 1 ≤ size → AreInTurn frames → AreCut size (recut size frames)

-- Bodies that are cut are cut no further.
abbrev pub CutBodiesStay : Type 0
CutBodiesStay =
    (size : ℕ) (frames : List Frame) → 1 ≤ size → AreCut size frames → recut size frames ≡ frames

-- Recutting twice by one size is recutting once.
abbrev pub TwiceIsOnce : Type 0
TwiceIsOnce =
    (size : ℕ) (frames : List Frame) → 1 ≤ size → AreInTurn frames
    → recut size (recut size frames) ≡ recut size frames

-- Where no content is open at the end, a channel has the frames of the last size alone. (Frames of
-- other channels may stand elsewhere between them, and of open content bytes may be pending for
-- the first size.)
abbrev pub LastSizeCounts : Type 0
LastSizeCounts =
    (first last : ℕ) (frames : List Frame) → 1 ≤ first → 1 ≤ last
    → AreInTurn frames → NoneIsOpen frames → (channel : ℕ)
    → of_channel outline_of channel (recut last (recut first frames))
    ≡ of_channel outline_of channel (recut last frames)
