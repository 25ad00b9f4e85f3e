-- `step`: clause `tracks`.
use Rattle.std.proofs.Common.{rules}
use Rattle.amqp_turns.proofs.Tracking.{tracks_step}
use Rattle.amqp_turns.proofs.progress.step.Goals as goal

pub returns-clause-tracks : goal.returns-clause-tracks
returns-clause-tracks c = λ content. tracks_step _ _ _ _ _ content (search rules) (search rules)
