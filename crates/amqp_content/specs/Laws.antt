-- The laws of messages. Laws that speak of no typed message are passed on.
use Rattle.std.specs.Prelude.{◌≡◌, ℕ, ◌≤◌, true, List, [], map, length}
use Rattle.std.specs.List.{AllByRecursion, flat_map}
use Rattle.amqp_wire.specs.Frames.{Frame}
use Rattle.amqp_wire.specs.Outlines.{outline_of}
use Rattle.amqp_turns.specs.Answers.{Answer, Answers}
pub use Rattle.amqp_turns.specs.Laws.{AnswersAreSteps, done_in, IsNoFault}
pub use Rattle.amqp_turns.specs.Laws.{ChannelsAreApart, ChannelsAreAnswered}
use Rattle.amqp_turns.specs.Units.{is_content, of_channel}
use Rattle.amqp_turns.specs.Outcomes.{OutcomeView, Assembling, PushesIn, TakesMarked}
use Rattle.amqp_turns.specs.Outcomes.{answer_outcome}
use Rattle.amqp_turns.specs.Sequences.{AreGiven, given_of}
use Rattle.amqp_messages.specs.Messages.{Parts, content_of}
use Rattle.amqp_messages.specs.Splits.{Sent, sent_frames}

-- What is given for a frame of content, and kept after it, by its mark is what the frames of its
-- channel so far give and leave, of which it is the last.
abbrev pub TakenIsAnswered : Type 0
TakenIsAnswered =
    (old new : Assembling) (frame : Frame) (outcome : OutcomeView)
    → is_content (outline_of frame) ≡ true
    → TakesMarked old new frame outcome → PushesIn old new frame outcome

-- The frames of messages of one channel, one message after another, give just these messages in
-- order, and no fault.
pub record AreWhole (max : ℕ) (frames : List Frame) (messages : List Parts) : Type 0 where
  pub messages_are : (answers : List (Answer Frame)) → Answers outline_of max frames answers
      → done_in (map answer_outcome answers) ≡ map content_of messages
  pub no_fault : (answers : List (Answer Frame)) → Answers outline_of max frames answers
      → AllByRecursion IsNoFault (map answer_outcome answers)

-- each body fits, and is cut into pieces that are not empty
abbrev pub AreSendable : ℕ → List Sent → Type 0
AreSendable max messages =
    AllByRecursion (λ sent. (1 ≤ sent.size) × (length sent.message.body ≤ max)) messages

-- Messages of a channel that are split into frames, each by a size of its own, come back whole, in
-- order, and without a fault.
abbrev pub SplitsAreWhole : Type 0
SplitsAreWhole =
    (max : ℕ) (messages : List Sent)
    → AreSendable max messages
    → AreWhole max (flat_map sent_frames messages) (map (λ sent. sent.message) messages)

-- what comes back on a channel: these messages in order, and no fault
pub record ComesBack (channel : ℕ) (frames : List Frame)
    (outcomes : List OutcomeView) (messages : List Sent) : Type 0 where
  pub messages_are : done_in (given_of channel frames outcomes)
      ≡ map (λ sent. content_of sent.message) messages
  pub no_fault : AllByRecursion IsNoFault (given_of channel frames outcomes)

-- Messages of many channels that are split into frames come back whole, in whatever order the
-- frames of different channels come.
abbrev pub InterleavedAreWhole : Type 0
InterleavedAreWhole =
    (max : ℕ) (messages : ℕ → List Sent) (frames : List Frame) (outcomes : List OutcomeView)
    → ((channel : ℕ) → AreSendable max (messages channel))
    → ((channel : ℕ)
    → of_channel outline_of channel frames ≡ flat_map sent_frames (messages channel))
    → AreGiven max [] frames outcomes
    → (channel : ℕ) → ComesBack channel frames outcomes (messages channel)
