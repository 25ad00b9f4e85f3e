-- Methods of all classes, and the names of classes.
use Rattle.std.specs.Prelude.{ℕ, List, codes}
use Rattle.amqp_types.specs.Methods.{Method}
use Rattle.amqp_basic.specs.Basic as basic
use Rattle.amqp_connection.specs.Connection as connection
use Rattle.amqp_connection.specs.Access as access
use Rattle.amqp_channel.specs.Channel as channel
use Rattle.amqp_channel.specs.Tx as tx
use Rattle.amqp_channel.specs.Confirm as confirm
use Rattle.amqp_exchange.specs.Exchange as exchange
use Rattle.amqp_topology.specs.Queue as queue
use Rattle.amqp_protocol.specs.declared.class.AMQPClass.{AMQPClass}
use Rattle.amqp_protocol.specs.declared.class.AMQPClass.TheVariants as classes

-- a method of its class: basic is class 60, connection 10, channel 20, access 30, exchange 40,
-- queue 50, tx 90, confirm 85
abbrev pub method_of : AMQPClass → Method
method_of (classes.Basic m) = basic.method_of m
method_of (classes.Connection m) = connection.method_of m
method_of (classes.Channel m) = channel.method_of m
method_of (classes.Access m) = access.method_of m
method_of (classes.Exchange m) = exchange.method_of m
method_of (classes.Queue m) = queue.method_of m
method_of (classes.Tx m) = tx.method_of m
method_of (classes.Confirm m) = confirm.method_of m

-- the name of its class, as the standard has it
abbrev pub class_name : AMQPClass → List ℕ
class_name (classes.Basic m) = codes "basic"
class_name (classes.Connection m) = codes "connection"
class_name (classes.Channel m) = codes "channel"
class_name (classes.Access m) = codes "access"
class_name (classes.Exchange m) = codes "exchange"
class_name (classes.Queue m) = codes "queue"
class_name (classes.Tx m) = codes "tx"
class_name (classes.Confirm m) = codes "confirm"
