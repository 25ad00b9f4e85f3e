-- No value.
use Rattle.amqp_entries.proofs.Holding.{void_written}
use Rattle.amqp_entries.proofs.values.VoidValueToValue.measure.Goals as goal

pub returns-clause-written : goal.returns-clause-written
returns-clause-written c = void_written
