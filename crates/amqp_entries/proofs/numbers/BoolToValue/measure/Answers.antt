-- A truth value.
use Rattle.amqp_entries.proofs.Holding.{boolean_written}
use Rattle.amqp_entries.proofs.numbers.BoolToValue.measure.Goals as goal

pub returns-clause-written : goal.returns-clause-written
returns-clause-written c = boolean_written c.args.self.now
