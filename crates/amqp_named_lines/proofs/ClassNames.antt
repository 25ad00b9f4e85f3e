-- Each typed method has the class that its variant names.
use Rattle.std.proofs.Common.{◌≡◌, refl, Some}
use Rattle.std.specs.Prelude.{option_map}
use Rattle.amqp_protocol.specs.Classes.{class_name, method_of}
use Rattle.amqp_protocol.specs.declared.class.AMQPClass.{AMQPClass}
use Rattle.amqp_protocol.specs.declared.class.AMQPClass.TheVariants as classes
use Rattle.amqp_basic.specs.declared.basic.AMQPMethod.TheVariants as basic
use Rattle.amqp_connection.specs.declared.methods.connection.AMQPMethod.TheVariants as connection
use Rattle.amqp_channel.specs.declared.methods.channel.AMQPMethod.TheVariants as channel
use Rattle.amqp_connection.specs.declared.methods.access.AMQPMethod.TheVariants as access
use Rattle.amqp_exchange.specs.declared.exchange.AMQPMethod.TheVariants as exchange
use Rattle.amqp_topology.specs.declared.queue.AMQPMethod.TheVariants as queue
use Rattle.amqp_channel.specs.declared.methods.tx.AMQPMethod.TheVariants as tx
use Rattle.amqp_channel.specs.declared.methods.confirm.AMQPMethod.TheVariants as confirm
use Rattle.amqp_names.specs.Tables.{class_at}

-- the table has the name of the class for the id that a method of it has
pub class_named : (m : AMQPClass) → option_map (λ c. c.name) (class_at (method_of m).class) ≡ Some (class_name m)
class_named (classes.Basic (basic.Qos m)) = refl
class_named (classes.Basic (basic.QosOk m)) = refl
class_named (classes.Basic (basic.Consume m)) = refl
class_named (classes.Basic (basic.ConsumeOk m)) = refl
class_named (classes.Basic (basic.Cancel m)) = refl
class_named (classes.Basic (basic.CancelOk m)) = refl
class_named (classes.Basic (basic.Publish m)) = refl
class_named (classes.Basic (basic.Return m)) = refl
class_named (classes.Basic (basic.Deliver m)) = refl
class_named (classes.Basic (basic.Get m)) = refl
class_named (classes.Basic (basic.GetOk m)) = refl
class_named (classes.Basic (basic.GetEmpty m)) = refl
class_named (classes.Basic (basic.Ack m)) = refl
class_named (classes.Basic (basic.Reject m)) = refl
class_named (classes.Basic (basic.RecoverAsync m)) = refl
class_named (classes.Basic (basic.Recover m)) = refl
class_named (classes.Basic (basic.RecoverOk m)) = refl
class_named (classes.Basic (basic.Nack m)) = refl
class_named (classes.Connection (connection.Start m)) = refl
class_named (classes.Connection (connection.StartOk m)) = refl
class_named (classes.Connection (connection.Secure m)) = refl
class_named (classes.Connection (connection.SecureOk m)) = refl
class_named (classes.Connection (connection.Tune m)) = refl
class_named (classes.Connection (connection.TuneOk m)) = refl
class_named (classes.Connection (connection.Open m)) = refl
class_named (classes.Connection (connection.OpenOk m)) = refl
class_named (classes.Connection (connection.Close m)) = refl
class_named (classes.Connection (connection.CloseOk m)) = refl
class_named (classes.Connection (connection.Blocked m)) = refl
class_named (classes.Connection (connection.Unblocked m)) = refl
class_named (classes.Connection (connection.UpdateSecret m)) = refl
class_named (classes.Connection (connection.UpdateSecretOk m)) = refl
class_named (classes.Channel (channel.Open m)) = refl
class_named (classes.Channel (channel.OpenOk m)) = refl
class_named (classes.Channel (channel.Flow m)) = refl
class_named (classes.Channel (channel.FlowOk m)) = refl
class_named (classes.Channel (channel.Close m)) = refl
class_named (classes.Channel (channel.CloseOk m)) = refl
class_named (classes.Access (access.Request m)) = refl
class_named (classes.Access (access.RequestOk m)) = refl
class_named (classes.Exchange (exchange.Declare m)) = refl
class_named (classes.Exchange (exchange.DeclareOk m)) = refl
class_named (classes.Exchange (exchange.Delete m)) = refl
class_named (classes.Exchange (exchange.DeleteOk m)) = refl
class_named (classes.Exchange (exchange.Bind m)) = refl
class_named (classes.Exchange (exchange.BindOk m)) = refl
class_named (classes.Exchange (exchange.Unbind m)) = refl
class_named (classes.Exchange (exchange.UnbindOk m)) = refl
class_named (classes.Queue (queue.Declare m)) = refl
class_named (classes.Queue (queue.DeclareOk m)) = refl
class_named (classes.Queue (queue.Bind m)) = refl
class_named (classes.Queue (queue.BindOk m)) = refl
class_named (classes.Queue (queue.Purge m)) = refl
class_named (classes.Queue (queue.PurgeOk m)) = refl
class_named (classes.Queue (queue.Delete m)) = refl
class_named (classes.Queue (queue.DeleteOk m)) = refl
class_named (classes.Queue (queue.Unbind m)) = refl
class_named (classes.Queue (queue.UnbindOk m)) = refl
class_named (classes.Tx (tx.Select m)) = refl
class_named (classes.Tx (tx.SelectOk m)) = refl
class_named (classes.Tx (tx.Commit m)) = refl
class_named (classes.Tx (tx.CommitOk m)) = refl
class_named (classes.Tx (tx.Rollback m)) = refl
class_named (classes.Tx (tx.RollbackOk m)) = refl
class_named (classes.Confirm (confirm.Select m)) = refl
class_named (classes.Confirm (confirm.SelectOk m)) = refl
