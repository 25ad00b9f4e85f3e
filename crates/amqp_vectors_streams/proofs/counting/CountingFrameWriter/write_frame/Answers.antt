-- `CountingFrameWriter::write_frame`: clause `writes`.
use Rattle.std.proofs.Common.{refl}
use Rattle.amqp_stream.proofs.Writes.{written_by, unwritten_by}
use Rattle.amqp_vectors_streams.specs.Counting.{one_more}
use Rattle.amqp_vectors_streams.proofs.Counted.{counts}
use Rattle.amqp_vectors_streams.proofs.counting.CountingFrameWriter.write_frame.Goals as goal

pub returns-in-Ok-clause-writes : goal.returns-in-Ok-clause-writes
returns-in-Ok-clause-writes g c = written_by tt (counts c.args.self.now _ c.saturating_add-self.ensures) refl c.in-Ok.ensures.writes

pub returns-in-Err-clause-writes : goal.returns-in-Err-clause-writes
returns-in-Err-clause-writes g c = unwritten_by _ (one_more c.args.self.now) _ _ _ _ _ c.in-Err.error (λ f. refl) refl c.in-Err.ensures.writes
