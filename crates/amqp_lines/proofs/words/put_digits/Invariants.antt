-- `put_digits`: what loops keep and what falls with each iteration or call.
use Rattle.amqp_lines.proofs
use proofs.Digits.{ArePut}
use proofs.words.put_digits.Given as goal

abbrev pub invariant-loop-rest : goal.invariant-loop-rest
invariant-loop-rest l = ArePut l.number l.digits l.place l.rest

abbrev pub decreases-loop-rest : goal.decreases-loop-rest
decreases-loop-rest l = l.rest
