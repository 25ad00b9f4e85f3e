-- `first_four`: the first byte is the highest.
use Rattle.std.proofs.Common.{arith}
use Rattle.amqp_entries.proofs.KeysInOrder.{four_are}
use Rattle.amqp_entries.proofs.ordered.first_four.Goals as goal

pub returns-clause-is : goal.returns-clause-is
returns-clause-is c = omega (arith, c.from_be_bytes.ensures, four_are c.args.key.now c.requires)
