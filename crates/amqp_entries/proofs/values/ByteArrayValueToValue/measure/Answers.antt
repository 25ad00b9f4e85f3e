-- Bytes that four bytes count.
use Rattle.amqp_types.specs.Values.{byte_array}
use Rattle.amqp_entries.proofs.Holding.{bytes_written}
use Rattle.amqp_entries.proofs.values.ByteArrayValueToValue.measure.Goals as goal

pub returns-clause-written : goal.returns-clause-written
returns-clause-written c = bytes_written byte_array c.args.self.now.bytes.now _ c.long_size.ensures.size
