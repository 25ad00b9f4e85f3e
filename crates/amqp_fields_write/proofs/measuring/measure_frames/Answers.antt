-- `measure_frames`: what it ensures and what the loop keeps.
use Rattle.amqp_fields_write.proofs
use proofs.Names.{Err, sym, ap, ◌∙◌, arith, drop_more, length-drop, no_head, at_head}
use proofs.Combined.{begins, ends, steps, stops_at}
use proofs.FramesMade.{at_counted, first_made, no_heads}
use proofs.measuring.measure_frames.Goals as goal

pub loop-place-init : goal.loop-place-init
loop-place-init c = begins _

pub returns-in-Err : goal.returns-in-Err
returns-in-Err c =
    let k = c.loop-place.place in
    stops_at _ _ c.loop-place.invariant (first_made _ _ _ _ _ _ _ (drop_more c.args.heads.now k no_head c.loop-place-test.true))
    (ap (at_head k) c.in-Err.ensures ∙ ap Err (sym c.within.ensures))

pub loop-place-preserved : goal.loop-place-preserved
loop-place-preserved c =
    let k = c.loop-place.place in
    steps c.loop-place.invariant (first_made _ _ _ _ _ _ _ (drop_more c.args.heads.now k no_head c.loop-place-test.true))
    (at_counted k c.in-Ok.ensures) c.plus-count.ensures

pub returns : goal.returns
returns c =
    ends c.loop-place.invariant
    (no_heads _ _ _ _ _ (omega (arith, c.loop-place-test.false, length-drop c.loop-place.place c.args.heads.now)))
