-- `judge_slots`: what loops keep.
use Rattle.std.proofs.Common.{◌≤◌, length}
use Rattle.amqp_canonical.proofs.Joining.{IsReached}
use Rattle.amqp_canonical.proofs.Forms.{slots_walk}
use Rattle.amqp_canonical.proofs.slots.judge_slots.Given as goal

abbrev pub invariant-loop-shape : goal.invariant-loop-shape
invariant-loop-shape l = (l.at ≤ length l.i) × IsReached slots_walk l.shapes l.i l.shape-index l.at l.canonical l.tidy
