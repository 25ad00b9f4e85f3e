-- `canonicalize_within`: what loops keep and what falls with each iteration or call.
use Rattle.std.proofs.Common.{length, ◌-◌}
use Rattle.amqp_types.specs.Levels.{level_of}
use Rattle.amqp_c.proofs.Fronts.{Going}
use Rattle.amqp_c.proofs.in_place.canonicalize_within.Given as goal

abbrev pub invariant-frames : goal.invariant-frames
invariant-frames l = Going (level_of l.fn.profile) l.fn.max_payload l.fn.bytes l.fn.bytes l.bytes l.used l.written

abbrev pub decreases-frames : goal.decreases-frames
decreases-frames l = length l.bytes - l.used
