-- Two methods of the class channel are equal exactly where contracts see the same.
use Rattle.std.proofs.Common.{◌≡◌, rules}
use Rattle.std.specs.Bool.{Decides}
use Rattle.amqp_channel.specs.declared.methods.channel.Flow.{Flow}
use Rattle.amqp_channel.specs.contracts.methods.channel.FlowPartialEq.TheImpl as flow
use Rattle.amqp_channel.specs.declared.methods.channel.FlowOk.{FlowOk}
use Rattle.amqp_channel.specs.contracts.methods.channel.FlowOkPartialEq.TheImpl as flow_ok
use Rattle.amqp_channel.specs.declared.methods.channel.Close.{Close}
use Rattle.amqp_channel.specs.contracts.methods.channel.ClosePartialEq.TheImpl as close
use Rattle.amqp_channel.specs.declared.methods.channel.AMQPMethod.{AMQPMethod}
use Rattle.amqp_channel.specs.contracts.methods.channel.AMQPMethodPartialEq.TheImpl as method

-- The test of equal channel.flow methods is true exactly where contracts see the same.
pub same_flow : (a b : Flow) → Decides (flow.ghosts.eq a b) (a ≡ b)
same_flow a b = search rules

-- The test of equal channel.flow-ok methods is true exactly where contracts see the same.
pub same_flow_ok : (a b : FlowOk) → Decides (flow_ok.ghosts.eq a b) (a ≡ b)
same_flow_ok a b = search rules

-- The test of equal channel.close methods is true exactly where contracts see the same.
pub same_close : (a b : Close) → Decides (close.ghosts.eq a b) (a ≡ b)
same_close a b = search rules

-- The test of equal methods of the class channel is true exactly where contracts see the same.
pub same_method : (a b : AMQPMethod) → Decides (method.ghosts.eq a b) (a ≡ b)
same_method a b = search (rules, same_flow, same_flow_ok, same_close)
