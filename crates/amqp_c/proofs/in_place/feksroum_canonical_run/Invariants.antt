-- `feksroum_canonical_run`: what loops keep and what falls with each iteration or call.
use Rattle.std.proofs.Common.{length, ◌-◌}
use Rattle.amqp_types.specs.Levels.{strict}
use Rattle.amqp_c.proofs.Fronts.{Running}
use Rattle.amqp_c.proofs.in_place.feksroum_canonical_run.Given as goal

abbrev pub invariant-frames : goal.invariant-frames
invariant-frames l = Running strict l.fn.max_payload l.bytes l.used

abbrev pub decreases-frames : goal.decreases-frames
decreases-frames l = length l.bytes - l.used
