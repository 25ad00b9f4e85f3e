-- The ranges of both numbers.
use Rattle.amqp_entries.proofs.Holding.{decimal_written}
use Rattle.amqp_entries.proofs.numbers.DecimalValueToValue.measure.Goals as goal

pub returns-clause-written : goal.returns-clause-written
returns-clause-written c = decimal_written c.args.self.now.scale c.args.self.now.value c.octet_held.ensures c.long_held.ensures
