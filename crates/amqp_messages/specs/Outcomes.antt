-- What becomes of a typed frame, as contracts speak of it.
use Rattle.amqp_turns.specs.Outcomes.{OutcomeView, passed, held, done, wrong}
use Rattle.amqp_frame.specs.Frames.{frame_of}
use Rattle.amqp_messages.specs.Messages.{content_of}
use Rattle.amqp_messages.specs.declared.outcome.Outcome.{Outcome}
use Rattle.amqp_messages.specs.declared.outcome.Outcome.TheVariants as outcomes

-- an outcome in these words
abbrev pub outcome_of : Outcome → OutcomeView
outcome_of (outcomes.Passed frame) = passed (frame_of frame)
outcome_of outcomes.Held = held
outcome_of (outcomes.Done whole) = done (content_of whole)
outcome_of (outcomes.Fault bad) = wrong bad
