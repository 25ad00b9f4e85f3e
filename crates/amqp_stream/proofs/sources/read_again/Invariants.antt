-- `read_again`: what the loop keeps. A read that failed consumed nothing.
use Rattle.amqp_stream.proofs
use proofs.Names.{◌≡◌, length, Keeps}
use proofs.sources.read_again.Given as goal

abbrev pub invariant-tries : goal.invariant-tries
invariant-tries g l = (length l.buf ≡ length l.initial.buf) × Keeps (g.R.Read.remaining l.initial.reader) (g.R.Read.remaining l.reader)
