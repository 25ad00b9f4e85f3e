-- The range of the number.
use Rattle.amqp_types.specs.Values.{double}
use Rattle.amqp_entries.proofs.Holding.{unsigned_written}
use Rattle.amqp_entries.proofs.values.DoubleValueToValue.measure.Goals as goal

pub returns-clause-written : goal.returns-clause-written
returns-clause-written c = unsigned_written double c.args.self.now.bits c.long_long_held.ensures
