-- Two methods of the class tx are equal exactly where contracts see the same.
use Rattle.std.proofs.Common.{◌≡◌, rules}
use Rattle.std.specs.Bool.{Decides}
use Rattle.amqp_channel.specs.declared.methods.tx.AMQPMethod.{AMQPMethod}
use Rattle.amqp_channel.specs.contracts.methods.tx.AMQPMethodPartialEq.TheImpl as method

-- The test of equal methods of the class tx is true exactly where contracts see the same.
pub same_method : (a b : AMQPMethod) → Decides (method.ghosts.eq a b) (a ≡ b)
same_method a b = search rules
