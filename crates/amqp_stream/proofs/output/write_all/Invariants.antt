-- `write_all`: what loops keep and what falls with each iteration or call.
use Rattle.amqp_stream.proofs
use proofs.Names.{◌≤◌, ◌-◌, length, take, Gains}
use proofs.output.write_all.Given as goal

abbrev pub invariant-loop-done : goal.invariant-loop-done
invariant-loop-done g l = record {
  within : l.done ≤ length l.bytes;
  gains : Gains (g.K.Sink.store l.fn.sink) (g.K.Sink.store l.sink) (take l.done l.bytes);
}

abbrev pub decreases-loop-done : goal.decreases-loop-done
decreases-loop-done g l = length l.bytes - l.done
