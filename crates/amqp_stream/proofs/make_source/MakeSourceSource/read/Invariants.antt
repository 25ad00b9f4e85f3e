-- `MakeSourceSource::read`: what loops keep and what falls with each iteration or call.
use Rattle.amqp_stream.proofs
use proofs.Names.{length, ◌-◌}
use proofs.Giving.{Giving}
use proofs.make_source.MakeSourceSource.read.Given as goal

abbrev pub invariant-loop-count : goal.invariant-loop-count
invariant-loop-count l = Giving l.fn.self l.buf l.self-inside.frame l.self-inside.span l.self-inside.next l.self-inside.frames l.count

abbrev pub decreases-loop-count : goal.decreases-loop-count
decreases-loop-count l = length l.initial.buf - l.count
