-- `Tracker::forget`: clause `stands`.
use Rattle.amqp_turns.proofs.Tracking.{nothing_tracked}
use Rattle.amqp_turns.proofs.tracker.Tracker.forget.Goals as goal

pub returns-clause-stands : goal.returns-clause-stands
returns-clause-stands c = nothing_tracked c.args.self.now.max_body _ c.forget.ensures.kept
