-- The frames of a channel are recut by themselves, whatever comes on other channels.
use Rattle.amqp_turns.specs as turns
use Rattle.std.proofs.Common.{◌≡◌, ℕ, true, List, [], ◌∷◌, ◌++◌, map, refl}
use Rattle.std.specs.List.{AllByRecursion}
use Rattle.std.proofs.lemmas.List.Elements.{filter-append}
use Rattle.amqp_wire.specs.Frames.{Frame, Body}
use Rattle.amqp_wire.specs.Outlines.{outline_of}
use turns.Units.{Nothing, Headed, is_of_channel, of_channel}
use turns.Stands.{State, At}
use turns.Steps.{step, run_state}
use Rattle.amqp_turns.proofs.Apart.{of_own}
use turns.InTurn.{greatest}
use Rattle.amqp_in_turn.proofs.Alone.{GoesByChannel, channel_made, made_on}
use Rattle.amqp_recut.specs.Cuts.{frame_recut, recut_after, recut}
use Rattle.amqp_recut.specs.Laws.{IsPiece, AreCut}

-- the frames of one channel recut, after what has come on it
abbrev pub channel_recut : ℕ → State Frame → List Frame → List Frame
channel_recut size state frames = channel_made (frame_recut size) state frames

-- what a frame becomes is of its channel

pieces_alike : (channel other : ℕ) (content : List ℕ) (parts : List (List ℕ))
    → AllByRecursion (λ x. is_of_channel outline_of channel x ≡ is_of_channel outline_of channel (Body other content)) (map (λ part. Body other part) parts)
pieces_alike channel other content [] = tt
pieces_alike channel other content (part ∷ parts) = (refl, pieces_alike channel other content parts)

alike : (size channel : ℕ) (state : State Frame) (frame : Frame)
    → AllByRecursion (λ x. is_of_channel outline_of channel x ≡ is_of_channel outline_of channel frame) (frame_recut size state frame)
alike size channel (At (Headed opening header bodies)) (Body other content) = pieces_alike channel other content _
alike size channel state (Body other content) = (refl, tt)
alike size channel state frame = (refl, tt)

-- The frames of a channel among frames that are recut are the channel's frames recut by themselves.
pub recut_on : (size channel : ℕ) (frames : List Frame)
    → of_channel outline_of channel (recut size frames) ≡ channel_recut size (At Nothing) (of_channel outline_of channel frames)
recut_on size channel frames =
    let by : GoesByChannel (frame_recut size) (frame_recut size) (recut_after size) =
    record { none = λ earlier. refl; more = λ earlier frame frames. refl; alike = alike size; inside_is = λ channel state frame h. refl } in
    made_on by channel [] frames

-- ---- bodies that are cut

-- a body is a piece of its message
abbrev pub IsCut : ℕ → State Frame → Frame → Type 0
IsCut size state (Body channel content) = IsPiece size state content
IsCut size state frame = Unit {0}

-- each body of one channel's frames is, after what has come on it
abbrev pub AreCutAfter : ℕ → State Frame → List Frame → Type 0
AreCutAfter size state [] = Unit {0}
AreCutAfter size state (frame ∷ frames) = IsCut size state frame × AreCutAfter size (step outline_of greatest state frame).1 frames

-- Frames whose bodies are cut, and frames whose bodies are cut after them, are cut together.
pub cut_append : (size : ℕ) (state : State Frame) (xs ys : List Frame) → AreCutAfter size state xs
    → AreCutAfter size (run_state outline_of greatest state xs) ys → AreCutAfter size state (xs ++ ys)
cut_append size state [] ys h g = g
cut_append size state (x ∷ xs) ys h g = (h.0, cut_append size (step outline_of greatest state x).1 xs ys h.1 g)

cut_back : (size : ℕ) (state : State Frame) (xs ys : List Frame) → AreCutAfter size state (xs ++ ys)
    → AreCutAfter size (run_state outline_of greatest state xs) ys
cut_back size state [] ys h = h
cut_back size state (x ∷ xs) ys h = cut_back size (step outline_of greatest state x).1 xs ys h.1

-- bodies that are cut on each channel are cut
pub are_cut : (size : ℕ) (frames : List Frame) → ((channel : ℕ) → AreCutAfter size (At Nothing) (of_channel outline_of channel frames)) → AreCut size frames
are_cut size frames h front back channel content e =
    let body = Body channel content in
    let own_is : is_of_channel outline_of channel body ≡ true = of_own body refl in
    let parts : of_channel outline_of channel frames ≡ of_channel outline_of channel front ++ body ∷ of_channel outline_of channel back =
    rw (e, filter-append (is_of_channel outline_of channel) front (body ∷ back), own_is) in
    (cut_back size (At Nothing) (of_channel outline_of channel front) (body ∷ of_channel outline_of channel back) (rw parts at (h channel))).0
