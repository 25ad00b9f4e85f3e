-- A frame is written at once, or a part of it.
use Rattle.amqp_vectors_streams.proofs.Forwarded.{gathered_flushed, flush_fails}
use Rattle.amqp_vectors_streams.proofs.forwarding.write_now.Goals as goal

pub returns-in-Ok-flush-clause-writes : goal.returns-in-Ok-flush-clause-writes
returns-in-Ok-flush-clause-writes g c =
    let writes = c.in-Ok.ensures.writes in (writes.0, writes.1, gathered_flushed c.requires.empty writes.2 c.in-Ok-flush.ensures.written)

pub returns-in-Err-flush-clause-writes : goal.returns-in-Err-flush-clause-writes
returns-in-Err-flush-clause-writes g c =
    let writes = c.in-Ok.ensures.writes in (writes.0, writes.1, flush_fails c.requires.empty writes.2 c.in-Err-flush.ensures.written)
