-- `gather_lines`: what loops keep and what falls with each iteration or call.
use Rattle.amqp_lines.proofs
use proofs.Names.{◌≤◌, length, take, HasNoNewline}
use proofs.Gathering.{Along}
use proofs.undumping.gather_lines.Given as goal

abbrev pub invariant-lines : goal.invariant-lines
invariant-lines g l = record {
  along : Along l.fn.max_payload l.fn.text l.rest l.fn.at l.at (g.K.Sink.store l.fn.sink) (g.K.Sink.store l.sink) l.fn.out.bytes l.out.bytes;
  within : l.seen ≤ length l.rest;
  none : HasNoNewline (take l.seen l.rest);
}

abbrev pub decreases-lines : goal.decreases-lines
decreases-lines g l = length l.rest
