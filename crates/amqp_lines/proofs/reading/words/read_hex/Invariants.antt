-- `read_hex`: what loops keep and what falls with each iteration or call.
use Rattle.amqp_lines.proofs
use proofs.Names.{length, read_hex}
use proofs.ReadSteps.{ReadsOn}
use proofs.reading.words.read_hex.Given as goal

abbrev pub invariant-loop-rest : goal.invariant-loop-rest
invariant-loop-rest l = ReadsOn (read_hex l.i) (read_hex l.rest) l.fn.out.items l.out.items

abbrev pub decreases-loop-rest : goal.decreases-loop-rest
decreases-loop-rest l = length l.rest
