-- The range of the number.
use Rattle.amqp_types.specs.Values.{timestamp}
use Rattle.amqp_entries.proofs.Holding.{unsigned_written}
use Rattle.amqp_entries.proofs.values.TimestampValueToValue.measure.Goals as goal

pub returns-clause-written : goal.returns-clause-written
returns-clause-written c = unsigned_written timestamp c.args.self.now.seconds c.long_long_held.ensures
