-- The range of the number.
use Rattle.std.proofs.Common.{arith}
use Rattle.amqp_types.specs.Values.{long_uint}
use Rattle.amqp_entries.proofs.Holding.{unsigned_written}
use Rattle.amqp_entries.proofs.numbers.U32ToValue.measure.Goals as goal

pub returns-clause-written : goal.returns-clause-written
returns-clause-written c = unsigned_written long_uint c.args.self.now (omega arith)
