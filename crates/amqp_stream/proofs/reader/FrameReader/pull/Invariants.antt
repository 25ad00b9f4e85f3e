-- `FrameReader::pull`: what loops keep and what falls with each iteration or call.
use Rattle.amqp_stream.proofs
use proofs.Names.{◌≡◌}
use proofs.Pulling.{Pulled}
use proofs.reader.FrameReader.pull.Given as goal

abbrev pub invariant-reads : goal.invariant-reads
invariant-reads g l = record {
  limit : l.self.limit ≡ l.fn.self.limit;
  pulled : Pulled l.fn.self.limit (g.S.Source.supply l.fn.source) (g.S.Source.supply l.source) l.fn.budget l.budget l.fn.self.held l.self.held 0;
  unread : l.budget ≡ l.fn.budget → l.source ≡ l.fn.source;
}

abbrev pub decreases-reads : goal.decreases-reads
decreases-reads g l = l.budget
