-- `Tracker::track_outline`: clause `tracks`.
use Rattle.std.proofs.Common.{rules}
use Rattle.amqp_turns.proofs.Tracking.{tracks_step}
use Rattle.amqp_turns.proofs.tracker.Tracker.track_outline.Goals as goal

pub returns-in_ok-keep-clause-tracks : goal.returns-in_ok-keep-clause-tracks
returns-in_ok-keep-clause-tracks c = λ content. tracks_step _ _ _ _ _ content (search rules) (search rules)

pub returns-else-ne-clause-tracks : goal.returns-else-ne-clause-tracks
returns-else-ne-clause-tracks c = λ content. tracks_step _ _ _ _ _ content (search rules) (search rules)
