-- `read_characters`: what loops keep and what falls with each iteration or call.
use Rattle.amqp_lines.proofs
use proofs.Names.{inside, listed, read_escaped}
use proofs.ReadSteps.{ReadsOn}
use proofs.reading.words.read_characters.Given as goal

abbrev pub invariant-characters : goal.invariant-characters
invariant-characters l = ReadsOn (inside read_escaped 34 l.i) (listed read_escaped 34 l.left l.rest) l.fn.out.items l.out.items

abbrev pub decreases-characters : goal.decreases-characters
decreases-characters l = l.left
