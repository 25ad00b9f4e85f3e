-- Two methods of the class confirm are equal exactly where contracts see the same.
use Rattle.std.proofs.Common.{◌≡◌, rules}
use Rattle.std.specs.Bool.{Decides}
use Rattle.amqp_channel.specs.declared.methods.confirm.Select.{Select}
use Rattle.amqp_channel.specs.contracts.methods.confirm.SelectPartialEq.TheImpl as select
use Rattle.amqp_channel.specs.declared.methods.confirm.AMQPMethod.{AMQPMethod}
use Rattle.amqp_channel.specs.contracts.methods.confirm.AMQPMethodPartialEq.TheImpl as method

-- The test of equal confirm.select methods is true exactly where contracts see the same.
pub same_select : (a b : Select) → Decides (select.ghosts.eq a b) (a ≡ b)
same_select a b = search rules

-- The test of equal methods of the class confirm is true exactly where contracts see the same.
pub same_method : (a b : AMQPMethod) → Decides (method.ghosts.eq a b) (a ≡ b)
same_method a b = search (rules, same_select)
