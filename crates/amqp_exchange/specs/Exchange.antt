-- The methods of the class exchange, and the items of their fields.
-- The fields stand in their order on the wire; a reserved one is decoded and dropped, is written as
-- the value named, and gives no item.
-- Flags beside each other share one byte, the first in its lowest bit (AMQP 0-9-1,
-- section 4.2.5.2).
use Rattle.std.specs.Prelude.{[], ◌∷◌}
use Rattle.amqp_types.specs.Slots.{flag_item, text_item, entries_item}
use Rattle.amqp_types.specs.Methods.{Method, method}
use Rattle.amqp_exchange.specs.declared.exchange.declaring.Declare.{Declare}
use Rattle.amqp_exchange.specs.declared.exchange.declaring.DeclareOk.{DeclareOk}
use Rattle.amqp_exchange.specs.declared.exchange.declaring.Delete.{Delete}
use Rattle.amqp_exchange.specs.declared.exchange.declaring.DeleteOk.{DeleteOk}
use Rattle.amqp_exchange.specs.declared.exchange.binding.Bind.{Bind}
use Rattle.amqp_exchange.specs.declared.exchange.binding.BindOk.{BindOk}
use Rattle.amqp_exchange.specs.declared.exchange.binding.Unbind.{Unbind}
use Rattle.amqp_exchange.specs.declared.exchange.binding.UnbindOk.{UnbindOk}
use Rattle.amqp_exchange.specs.declared.exchange.AMQPMethod.{AMQPMethod}
use Rattle.amqp_exchange.specs.declared.exchange.AMQPMethod.TheVariants as variant

-- exchange.declare (class 40, method 10): reserved (2 bytes, 0), exchange, kind, passive, durable,
-- auto_delete, internal, nowait, arguments; auto_delete and internal are RabbitMQ's, where the
-- standard has reserved flags
abbrev pub declare_method : Declare → Method
declare_method m =
    method 40 10 (text_item m.exchange ∷ text_item m.kind ∷ flag_item m.passive
    ∷ flag_item m.durable ∷ flag_item m.auto_delete ∷ flag_item m.internal
    ∷ flag_item m.nowait ∷ entries_item m.arguments ∷ [])

-- exchange.declare-ok (class 40, method 11): no fields
abbrev pub declare_ok_method : DeclareOk → Method
declare_ok_method m = method 40 11 ([])

-- exchange.delete (class 40, method 20): reserved (2 bytes, 0), exchange, if_unused, nowait
abbrev pub delete_method : Delete → Method
delete_method m =
    method 40 20 (text_item m.exchange ∷ flag_item m.if_unused ∷ flag_item m.nowait ∷ [])

-- exchange.delete-ok (class 40, method 21): no fields
abbrev pub delete_ok_method : DeleteOk → Method
delete_ok_method m = method 40 21 ([])

-- exchange.bind (class 40, method 30): reserved (2 bytes, 0), destination, source, routing_key,
-- nowait, arguments; RabbitMQ's extension
abbrev pub bind_method : Bind → Method
bind_method m =
    method 40 30 (text_item m.destination ∷ text_item m.source
    ∷ text_item m.routing_key ∷ flag_item m.nowait ∷ entries_item m.arguments ∷ [])

-- exchange.bind-ok (class 40, method 31): no fields; RabbitMQ's extension
abbrev pub bind_ok_method : BindOk → Method
bind_ok_method m = method 40 31 ([])

-- exchange.unbind (class 40, method 40): reserved (2 bytes, 0), destination, source, routing_key,
-- nowait, arguments; RabbitMQ's extension
abbrev pub unbind_method : Unbind → Method
unbind_method m =
    method 40 40 (text_item m.destination ∷ text_item m.source
    ∷ text_item m.routing_key ∷ flag_item m.nowait ∷ entries_item m.arguments ∷ [])

-- exchange.unbind-ok (class 40, method 51): no fields; RabbitMQ's extension, and its
-- id is 51, not 41
abbrev pub unbind_ok_method : UnbindOk → Method
unbind_ok_method m = method 40 51 ([])

-- the row of class 40 that each variant is, by its method id: Declare 10, DeclareOk 11, Delete 20,
-- DeleteOk 21, Bind 30, BindOk 31, Unbind 40, UnbindOk 51
abbrev pub method_of : AMQPMethod → Method
method_of (variant.Declare m) = declare_method m
method_of (variant.DeclareOk m) = declare_ok_method m
method_of (variant.Delete m) = delete_method m
method_of (variant.DeleteOk m) = delete_ok_method m
method_of (variant.Bind m) = bind_method m
method_of (variant.BindOk m) = bind_ok_method m
method_of (variant.Unbind m) = unbind_method m
method_of (variant.UnbindOk m) = unbind_ok_method m
