-- `lay_frames`: what it ensures, and what the loop keeps.
use Rattle.amqp_fields_write.proofs
use proofs.Names.{arith, drop_more, length-drop, no_head}
use proofs.FramesMade.{first_made, no_heads}
use proofs.Quick.{leads_begin, leads_end, leads_on}
use proofs.QuickFrames.{at_laid}
use proofs.laying_frames.lay_frames.Goals as goal

pub loop-head-init : goal.loop-head-init
loop-head-init g c = leads_begin _ _ _ _ _ _

pub loop-head-preserved : goal.loop-head-preserved
loop-head-preserved g c =
    let k = c.loop-head.head-index in
    leads_on c.loop-head.invariant
    (first_made _ _ _ _ _ _ _ (drop_more c.args.heads.now k no_head c.loop-head-test.true))
    (at_laid k c.lay_frame-made.ensures)

pub returns : goal.returns
returns g c =
    leads_end c.loop-head.invariant
    (no_heads _ _ _ _ _ (omega (arith, c.loop-head-test.false, length-drop c.loop-head.head-index c.args.heads.now)))
