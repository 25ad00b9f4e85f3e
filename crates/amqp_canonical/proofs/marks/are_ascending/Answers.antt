-- `are_ascending`: what loops keep.
use Rattle.std.proofs.Common.{arith}
use Rattle.amqp_canonical.specs.Marks.{Ascends}
use Rattle.amqp_canonical.proofs.InOrder.{neighbours_more}
use Rattle.amqp_canonical.proofs.marks.are_ascending.Goals as goal

pub loop-k-preserved : goal.loop-k-preserved
loop-k-preserved c =
    let l = c.loop-k in
    let up = l.invariant.0 in
    (omega (arith, up), neighbours_more (Ascends c.args.content.now) c.args.marks.now l.k up l.invariant.1 (c.ascends.ensures c.if-not-ascends.false))
