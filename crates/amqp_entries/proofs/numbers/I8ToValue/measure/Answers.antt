-- The range of the number.
use Rattle.std.proofs.Common.{rules}
use Rattle.amqp_types.specs.Values.{short_short_int}
use Rattle.amqp_entries.proofs.Holding.{signed_written}
use Rattle.amqp_entries.proofs.numbers.I8ToValue.measure.Goals as goal

pub returns-clause-written : goal.returns-clause-written
returns-clause-written c = signed_written short_short_int c.args.self.now (search rules)
