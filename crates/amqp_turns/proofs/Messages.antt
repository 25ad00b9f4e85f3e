-- The frames of a channel in turn, and the messages that they complete.
use Rattle.std.proofs.Common.{◌≡◌, ℕ, ◌<◌, ◌≤◌, true, List, [], ◌∷◌, ◌++◌, append-nil, map, refl, ap, ◌∙◌, inl, inr}
use Rattle.std.specs.List.{AllByRecursion, flat_map}
use Rattle.std.proofs.lemmas.Bool.{cases_Bool, eqb-true}
use Rattle.std.proofs.lemmas.List.{map-append}
use Rattle.amqp_wire.specs.Frames.{Frame, Proto, Beat, BadBeat, channel_id_of}
use Rattle.amqp_wire.specs.Outlines.{outline_of}
use Rattle.amqp_turns.specs.Units.{Finished, Full, Begun, Nothing, Opened, Headed, IsOpening, IsBasicHeader, size_in, IsInTurn, is_of_channel, of_channel}
use Rattle.amqp_turns.specs.Answers.{Answer, Ends, bodies_within, begun_answers, finished_answers}
use Rattle.amqp_turns.specs.Stands.{At}
use Rattle.amqp_turns.specs.Steps.{step, run_answers}
use Rattle.amqp_turns.specs.Messages.{Content, content_with}
use Rattle.amqp_turns.specs.Outcomes.{answer_outcome}
use Rattle.amqp_turns.specs.Laws.{done_in}
use Rattle.amqp_turns.specs.InTurn.{greatest}
use Rattle.amqp_turns.proofs.Running.{opening_step, header_step, turn_runs}
use Rattle.amqp_turns.proofs.WholeMessages.{done_in-append}

-- ---- all frames of a channel

-- a frame of this channel's content
abbrev pub IsOn : ℕ → Frame → Type 0
IsOn channel frame = is_of_channel outline_of channel frame ≡ true

-- A frame of a channel's content has the id of the channel.
pub channel_is : (channel : ℕ) (frame : Frame) → IsOn channel frame → channel_id_of frame ≡ channel
channel_is channel (Proto major minor revision) h = absurd cc
channel_is channel Beat h = absurd cc
channel_is channel (BadBeat other) h = absurd cc
channel_is channel frame h = eqb-true _ channel h

-- The frames of a channel's content are all of this channel.
pub all_on : (channel : ℕ) (frames : List Frame) → AllByRecursion (IsOn channel) (of_channel outline_of channel frames)
all_on channel [] = tt
all_on channel (frame ∷ frames) = elim (cases_Bool (is_of_channel outline_of channel frame)) [
  | inl e ↦ rw e (e, all_on channel frames)
  | inr e ↦ rw e (all_on channel frames)
]

-- What holds of all of two lists holds of all of the first one.
pub all_front : {X : Type 0} (P : X → Type 0) (xs ys : List X) → AllByRecursion P (xs ++ ys) → AllByRecursion P xs
all_front P [] ys h = tt
all_front P (x ∷ xs) ys h = (h.0, all_front P xs ys h.1)

-- What holds of all of two lists holds of all of the second one.
pub all_back : {X : Type 0} (P : X → Type 0) (xs ys : List X) → AllByRecursion P (xs ++ ys) → AllByRecursion P ys
all_back P [] ys h = h
all_back P (x ∷ xs) ys h = all_back P xs ys h.1

-- ---- the first frames of a message

-- A method that begins a message, where none has begun, leaves a message with this opening.
pub opened : (opening : Frame) → IsOpening (outline_of opening) → (step outline_of greatest (At Nothing) opening).1 ≡ At (Opened opening)
opened opening h = rw (opening_step outline_of greatest opening (outline_of opening) refl h) refl

-- After an opening, a content header of the class basic with a size above zero leaves a message with both.
pub headed_by : (opening header : Frame) → IsBasicHeader (outline_of header) → size_in (outline_of header) ≤ greatest
    → 0 < size_in (outline_of header) → (step outline_of greatest (At (Opened opening)) header).1 ≡ At (Headed opening header [])
headed_by opening header basic fits some =
    rw (header_step outline_of greatest opening header (outline_of header) refl basic fits some) refl

-- ---- the messages that answers complete

-- the messages that outcomes complete
abbrev pub done_by : List (Answer Frame) → List Content
done_by answers = done_in (map answer_outcome answers)

-- The messages that outcomes complete one after the other are those of the first, and then those of the others.
pub done_by_append : (xs ys : List (Answer Frame)) → done_by (xs ++ ys) ≡ done_by xs ++ done_by ys
done_by_append xs ys = ap done_in (map-append answer_outcome xs ys) ∙ done_in-append (map answer_outcome xs) (map answer_outcome ys)

held_bodies : (opening header : Frame) (before bodies : List Frame) → done_by (bodies_within opening header before bodies) ≡ []
held_bodies opening header before [] = refl
held_bodies opening header before (body ∷ bodies) = held_bodies opening header (before ++ body ∷ []) bodies

held_begun : (begun : Begun Frame) → done_by (begun_answers begun) ≡ []
held_begun (Headed opening header bodies) = held_bodies opening header [] bodies
held_begun begun = refl

-- The frames of a message with a body complete just this message.
pub full_done : (opening header : Frame) (bodies : List Frame) (last : Frame)
    → done_by (finished_answers (Full opening header bodies last)) ≡ content_with (Headed opening header bodies) last ∷ []
full_done opening header bodies last =
    done_by_append (begun_answers (Headed opening header bodies)) (Ends (Headed opening header bodies) last ∷ [])
    ∙ rw (held_begun (Headed opening header bodies)) refl

-- the messages of finished units
abbrev pub done_of : List (Finished Frame) → List Content
done_of units = done_by (flat_map finished_answers units)

-- The frames of a channel in turn complete the messages of their finished units.
pub turn_done : (xs : List Frame) → (h : IsInTurn outline_of greatest xs) → done_by (run_answers outline_of greatest (At Nothing) xs) ≡ done_of h.units
turn_done xs h =
    ap done_by (ap (run_answers outline_of greatest (At Nothing)) h.are ∙ (turn_runs outline_of greatest h.units h.begun h.finished h.is_begun).answers_are)
    ∙ done_by_append (flat_map finished_answers h.units) (begun_answers h.begun)
    ∙ ap (λ cs. done_of h.units ++ cs) (held_begun h.begun)
    ∙ append-nil (done_of h.units)
