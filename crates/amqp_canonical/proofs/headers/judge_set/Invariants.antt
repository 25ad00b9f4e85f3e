-- `judge_set`: what loops keep.
use Rattle.std.proofs.Common.{◌≤◌, length}
use Rattle.amqp_canonical.proofs.Joining.{IsReached}
use Rattle.amqp_canonical.proofs.Properties.{properties_walk}
use Rattle.amqp_canonical.proofs.headers.judge_set.Given as goal

abbrev pub invariant-loop-shape : goal.invariant-loop-shape
invariant-loop-shape l = (l.at ≤ length l.i) × IsReached (properties_walk l.mask) l.shapes l.i l.shape-index l.at l.canonical l.tidy
