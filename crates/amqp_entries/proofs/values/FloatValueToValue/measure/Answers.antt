-- The range of the number.
use Rattle.amqp_types.specs.Values.{float}
use Rattle.amqp_entries.proofs.Holding.{unsigned_written}
use Rattle.amqp_entries.proofs.values.FloatValueToValue.measure.Goals as goal

pub returns-clause-written : goal.returns-clause-written
returns-clause-written c = unsigned_written float c.args.self.now.bits c.long_held.ensures
