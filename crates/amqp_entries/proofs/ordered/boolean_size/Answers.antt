-- `boolean_size`: 0 or 1.
use Rattle.std.proofs.Common.{arith}
use Rattle.amqp_entries.proofs.PlainValues.{boolean_front}
use Rattle.amqp_entries.proofs.ordered.boolean_size.Goals as goal

pub returns : goal.returns
returns c = boolean_front c.args.depth_left c.args.i.now (omega arith) (omega arith) (omega arith)
