-- `MakeSourceSource::read`: what loops keep.
use Rattle.amqp_stream.proofs
use proofs.Names.{arith}
use proofs.Giving.{given_refilled, given_more}
use proofs.make_source.MakeSourceSource.read.Goals as goal

pub loop-count-preserved : goal.loop-count-preserved
loop-count-preserved c =
    let span = c.refill.new.span in
    let giving = given_refilled c.loop-count.invariant c.refill.ensures.making c.refill.ensures.same in
    given_more _ _ _ c.refill.new.frame span.start span.end _ _ _ _ _ giving (omega arith) (omega arith) c.put_bytes-count.ensures
