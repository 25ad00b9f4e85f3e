-- `write_after`: clause `written`.
use Rattle.amqp_stream.proofs
use proofs.Writes.{WritesAll-then, gathered_flushed}
use proofs.output.write_after.Goals as goal

pub returns-in-Ok-clause-written : goal.returns-in-Ok-clause-written
returns-in-Ok-clause-written g c = gathered_flushed c.in-Ok.ensures.gathers c.flush-in-Ok.ensures.written

pub returns-in-Ok-flush-clause-written : goal.returns-in-Ok-flush-clause-written
returns-in-Ok-flush-clause-written g c = WritesAll-then c.in-Ok-flush.ensures.written c.write_all.ensures
