-- `Tracker::open`: clause `stands`.
use Rattle.amqp_turns.proofs.Tracking.{none_tracked}
use Rattle.amqp_turns.proofs.tracker.Tracker.open.Goals as goal

pub returns-clause-stands : goal.returns-clause-stands
returns-clause-stands c = none_tracked c.args.max_body c.new.result c.new.ensures
