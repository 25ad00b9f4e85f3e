-- `write_again`: what the loop keeps. A write that failed appended nothing.
use Rattle.amqp_stream.proofs
use proofs.Names.{Keeps}
use proofs.sinks.write_again.Given as goal

abbrev pub invariant-tries : goal.invariant-tries
invariant-tries g l = Keeps (g.W.Write.contents l.initial.writer) (g.W.Write.contents l.writer)
