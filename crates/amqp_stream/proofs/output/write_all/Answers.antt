-- `write_all`: what it ensures and what loops keep.
use Rattle.amqp_stream.proofs
use proofs.Names.{arith}
use proofs.Writes.{Gains-more, WritesAll-fault}
use proofs.output.write_all.Goals as goal

pub loop-done-preserved : goal.loop-done-preserved
loop-done-preserved g c = record {
  within = omega (arith, c.in-Ok.ensures.some.1);
  gains = Gains-more _ _ _ c.args.bytes.now c.loop-done.done c.in-Ok.count c.loop-done.invariant.gains c.in-Ok.ensures.gains;
}

pub returns-in-Err : goal.returns-in-Err
returns-in-Err g c =
    WritesAll-fault _ _ _ c.args.bytes.now c.loop-done.done c.in-Err.fault c.loop-done.invariant.gains c.in-Err.ensures.gains c.in-Err.ensures.fault
