-- `run`: what loops keep and what falls with each iteration or call.
use Rattle.amqp_lines.proofs
use proofs.Names.{◌≡◌, ◌+◌, ◌≤◌, length, [], longest_line}
use proofs.LongLines.{Holding}
use proofs.undumping.run.Given as goal

abbrev pub invariant-reads : goal.invariant-reads
invariant-reads g l = record {
  holding : Holding l.fn.max_payload l.fn.budget l.left (g.S.Source.supply l.fn.source)
      (g.S.Source.supply l.source) (g.K.Sink.store l.fn.sink) (g.K.Sink.store l.sink) l.lines.held.items l.lines.at;
  most : l.lines.most ≡ longest_line l.fn.max_payload + 1;
  few : length l.lines.held.items ≤ longest_line l.fn.max_payload + 1;
  none : l.out.bytes ≡ [];
  unread : l.left ≡ l.fn.budget → l.source ≡ l.fn.source;
  unwritten : l.left ≡ l.fn.budget → l.sink ≡ l.fn.sink;
}

abbrev pub decreases-reads : goal.decreases-reads
decreases-reads g l = l.left
