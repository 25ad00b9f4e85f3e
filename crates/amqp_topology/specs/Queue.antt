-- The methods of the class queue, and the items of their fields.
-- The fields stand in their order on the wire; a reserved one is decoded and dropped, is written as
-- the value named, and gives no item.
-- Flags beside each other share one byte, the first in its lowest bit (AMQP 0-9-1,
-- section 4.2.5.2).
use Rattle.std.specs.Prelude.{[], ◌∷◌}
use Rattle.amqp_types.specs.Slots.{number_item, flag_item, text_item, entries_item}
use Rattle.amqp_types.specs.Methods.{Method, method}
use Rattle.amqp_topology.specs.declared.queue.declaring.Declare.{Declare}
use Rattle.amqp_topology.specs.declared.queue.declaring.DeclareOk.{DeclareOk}
use Rattle.amqp_topology.specs.declared.queue.binding.Bind.{Bind}
use Rattle.amqp_topology.specs.declared.queue.binding.BindOk.{BindOk}
use Rattle.amqp_topology.specs.declared.queue.declaring.Purge.{Purge}
use Rattle.amqp_topology.specs.declared.queue.declaring.PurgeOk.{PurgeOk}
use Rattle.amqp_topology.specs.declared.queue.declaring.Delete.{Delete}
use Rattle.amqp_topology.specs.declared.queue.declaring.DeleteOk.{DeleteOk}
use Rattle.amqp_topology.specs.declared.queue.binding.Unbind.{Unbind}
use Rattle.amqp_topology.specs.declared.queue.binding.UnbindOk.{UnbindOk}
use Rattle.amqp_topology.specs.declared.queue.AMQPMethod.{AMQPMethod}
use Rattle.amqp_topology.specs.declared.queue.AMQPMethod.TheVariants as variant

-- queue.declare (class 50, method 10): reserved (2 bytes, 0), queue, passive, durable, exclusive,
-- auto_delete, nowait, arguments
abbrev pub declare_method : Declare → Method
declare_method m =
    method 50 10 (text_item m.queue ∷ flag_item m.passive
    ∷ flag_item m.durable ∷ flag_item m.exclusive ∷ flag_item m.auto_delete
    ∷ flag_item m.nowait ∷ entries_item m.arguments ∷ [])

-- queue.declare-ok (class 50, method 11): queue, message_count, consumer_count
abbrev pub declare_ok_method : DeclareOk → Method
declare_ok_method m =
    method 50 11
    (text_item m.queue ∷ number_item m.message_count ∷ number_item m.consumer_count ∷ [])

-- queue.bind (class 50, method 20): reserved (2 bytes, 0), queue, exchange, routing_key,
-- nowait, arguments
abbrev pub bind_method : Bind → Method
bind_method m =
    method 50 20 (text_item m.queue ∷ text_item m.exchange
    ∷ text_item m.routing_key ∷ flag_item m.nowait ∷ entries_item m.arguments ∷ [])

-- queue.bind-ok (class 50, method 21): no fields
abbrev pub bind_ok_method : BindOk → Method
bind_ok_method m = method 50 21 ([])

-- queue.purge (class 50, method 30): reserved (2 bytes, 0), queue, nowait
abbrev pub purge_method : Purge → Method
purge_method m = method 50 30 (text_item m.queue ∷ flag_item m.nowait ∷ [])

-- queue.purge-ok (class 50, method 31): message_count
abbrev pub purge_ok_method : PurgeOk → Method
purge_ok_method m = method 50 31 (number_item m.message_count ∷ [])

-- queue.delete (class 50, method 40): reserved (2 bytes, 0), queue, if_unused, if_empty, nowait
abbrev pub delete_method : Delete → Method
delete_method m =
    method 50 40
    (text_item m.queue ∷ flag_item m.if_unused ∷ flag_item m.if_empty ∷ flag_item m.nowait ∷ [])

-- queue.delete-ok (class 50, method 41): message_count
abbrev pub delete_ok_method : DeleteOk → Method
delete_ok_method m = method 50 41 (number_item m.message_count ∷ [])

-- queue.unbind (class 50, method 50): reserved (2 bytes, 0), queue, exchange,
-- routing_key, arguments
abbrev pub unbind_method : Unbind → Method
unbind_method m =
    method 50 50 (text_item m.queue ∷ text_item m.exchange
    ∷ text_item m.routing_key ∷ entries_item m.arguments ∷ [])

-- queue.unbind-ok (class 50, method 51): no fields
abbrev pub unbind_ok_method : UnbindOk → Method
unbind_ok_method m = method 50 51 ([])

-- the row of class 50 that each variant is, by its method id: Declare 10, DeclareOk 11, Bind 20,
-- BindOk 21, Purge 30, PurgeOk 31, Delete 40, DeleteOk 41, Unbind 50, UnbindOk 51
abbrev pub method_of : AMQPMethod → Method
method_of (variant.Declare m) = declare_method m
method_of (variant.DeclareOk m) = declare_ok_method m
method_of (variant.Bind m) = bind_method m
method_of (variant.BindOk m) = bind_ok_method m
method_of (variant.Purge m) = purge_method m
method_of (variant.PurgeOk m) = purge_ok_method m
method_of (variant.Delete m) = delete_method m
method_of (variant.DeleteOk m) = delete_ok_method m
method_of (variant.Unbind m) = unbind_method m
method_of (variant.UnbindOk m) = unbind_ok_method m
