-- `read_digits`: what loops keep and what falls with each iteration or call.
use Rattle.amqp_lines.proofs
use proofs.Names.{◌≡◌, length, read_digits}
use proofs.reading.words.read_digits.Given as goal

abbrev pub invariant-loop-rest : goal.invariant-loop-rest
invariant-loop-rest l = read_digits 0 l.i ≡ read_digits l.number l.rest

abbrev pub decreases-loop-rest : goal.decreases-loop-rest
decreases-loop-rest l = length l.rest
