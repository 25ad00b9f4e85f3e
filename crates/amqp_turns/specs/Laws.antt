-- Laws of content.
use Rattle.std.specs.Prelude.{◌≡◌, ℕ, List, [], ◌∷◌, map}
use Rattle.amqp_wire.specs.declared.outline.FrameOutline.{FrameOutline}
use Rattle.amqp_wire.specs.Frames.{Frame}
use Rattle.amqp_wire.specs.Outlines.{outline_of}
use Rattle.amqp_turns.specs.Units.{Nothing, of_channel}
use Rattle.amqp_turns.specs.Answers.{Answer, Answers}
use Rattle.amqp_turns.specs.Stands.{State, At, Stands}
use Rattle.amqp_turns.specs.Steps.{run_answers, run_state}
use Rattle.amqp_turns.specs.Messages.{Content}
use Rattle.amqp_turns.specs.Outcomes.{OutcomeView, passed, held, done, wrong, answer_outcome}
use Rattle.amqp_turns.specs.Sequences.{AreGiven, given_of}
use Rattle.amqp_turns.specs.InTurn.{greatest}

-- The outcomes by the longest prefix in turn are those of one step after another, so each list of
-- frames has just one list of outcomes, and one state stands for it.
pub record AnswersAreSteps {X : Type 0} (outline : X → FrameOutline) : Type 0 where
  pub steps : (max : ℕ) (xs : List X)
      → Answers outline max xs (run_answers outline max (At Nothing) xs)
  pub only : (max : ℕ) (xs : List X) (answers : List (Answer X))
      → Answers outline max xs answers → answers ≡ run_answers outline max (At Nothing) xs
  pub stands : (max : ℕ) (xs : List X)
      → Stands outline max xs (run_state outline max (At Nothing) xs)
  pub one_stands : (max : ℕ) (xs : List X) (state : State X)
      → Stands outline max xs state → state ≡ run_state outline max (At Nothing) xs

-- the messages that are complete
abbrev pub done_in : List OutcomeView → List Content
done_in [] = []
done_in (passed frame ∷ rest) = done_in rest
done_in (held ∷ rest) = done_in rest
done_in (done content ∷ rest) = content ∷ done_in rest
done_in (wrong fault ∷ rest) = done_in rest

-- the messages that are complete on a channel, in order
abbrev pub messages_on : ℕ → List Frame → List Content
messages_on channel frames =
    done_in (map answer_outcome
    (run_answers outline_of greatest (At Nothing) (of_channel outline_of channel frames)))

-- the outcome is no fault
abbrev pub IsNoFault : OutcomeView → Type 0
IsNoFault (passed frame) = Unit {0}
IsNoFault held = Unit {0}
IsNoFault (done content) = Unit {0}
IsNoFault (wrong fault) = ⊥

-- What the content of a channel gives is a function of that channel's frames alone, in whatever way
-- other frames come between.
abbrev pub ChannelsAreApart : Type 0
ChannelsAreApart =
    (max channel : ℕ) (frames others : List Frame) (outcomes given : List OutcomeView)
    → AreGiven max [] frames outcomes
    → AreGiven max [] others given
    → of_channel outline_of channel frames ≡ of_channel outline_of channel others
    → given_of channel frames outcomes ≡ given_of channel others given

-- what the content of a channel gives are the outcomes of that channel's frames
abbrev pub ChannelsAreAnswered : Type 0
ChannelsAreAnswered =
    (max channel : ℕ) (frames : List Frame) (outcomes : List OutcomeView)
    → AreGiven max [] frames outcomes
    → (answers : List (Answer Frame))
    → Answers outline_of max (of_channel outline_of channel frames) answers
    → given_of channel frames outcomes ≡ map answer_outcome answers
