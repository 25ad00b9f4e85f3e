-- The methods of the class basic, and the items of their fields.
-- The fields stand in their order on the wire; a reserved one is decoded and dropped, is written as
-- the value named, and gives no item.
-- Flags beside each other share one byte, the first in its lowest bit (AMQP 0-9-1,
-- section 4.2.5.2).
use Rattle.std.specs.Prelude.{[], ◌∷◌}
use Rattle.amqp_types.specs.Slots.{number_item, flag_item, text_item, entries_item}
use Rattle.amqp_types.specs.Methods.{Method, method}
use Rattle.amqp_basic.specs.declared.basic.consuming.Qos.{Qos}
use Rattle.amqp_basic.specs.declared.basic.consuming.QosOk.{QosOk}
use Rattle.amqp_basic.specs.declared.basic.consuming.Consume.{Consume}
use Rattle.amqp_basic.specs.declared.basic.consuming.ConsumeOk.{ConsumeOk}
use Rattle.amqp_basic.specs.declared.basic.consuming.Cancel.{Cancel}
use Rattle.amqp_basic.specs.declared.basic.consuming.CancelOk.{CancelOk}
use Rattle.amqp_basic.specs.declared.basic.publishing.Publish.{Publish}
use Rattle.amqp_basic.specs.declared.basic.publishing.Return.{Return}
use Rattle.amqp_basic.specs.declared.basic.publishing.Deliver.{Deliver}
use Rattle.amqp_basic.specs.declared.basic.publishing.Get.{Get}
use Rattle.amqp_basic.specs.declared.basic.publishing.GetOk.{GetOk}
use Rattle.amqp_basic.specs.declared.basic.publishing.GetEmpty.{GetEmpty}
use Rattle.amqp_basic.specs.declared.basic.acknowledging.Ack.{Ack}
use Rattle.amqp_basic.specs.declared.basic.acknowledging.Reject.{Reject}
use Rattle.amqp_basic.specs.declared.basic.acknowledging.RecoverAsync.{RecoverAsync}
use Rattle.amqp_basic.specs.declared.basic.acknowledging.Recover.{Recover}
use Rattle.amqp_basic.specs.declared.basic.acknowledging.RecoverOk.{RecoverOk}
use Rattle.amqp_basic.specs.declared.basic.acknowledging.Nack.{Nack}
use Rattle.amqp_basic.specs.declared.basic.AMQPMethod.{AMQPMethod}
use Rattle.amqp_basic.specs.declared.basic.AMQPMethod.TheVariants as variant

-- basic.qos (class 60, method 10): prefetch_size (reserved here, 4 bytes, 0),
-- prefetch_count, global
abbrev pub qos_method : Qos → Method
qos_method m = method 60 10 (number_item m.prefetch_count ∷ flag_item m.global ∷ [])

-- basic.qos-ok (class 60, method 11): no fields
abbrev pub qos_ok_method : QosOk → Method
qos_ok_method m = method 60 11 ([])

-- basic.consume (class 60, method 20): reserved (2 bytes, 0), queue, consumer_tag, no_local,
-- no_ack, exclusive, nowait, arguments
abbrev pub consume_method : Consume → Method
consume_method m =
    method 60 20 (text_item m.queue ∷ text_item m.consumer_tag
    ∷ flag_item m.no_local ∷ flag_item m.no_ack ∷ flag_item m.exclusive
    ∷ flag_item m.nowait ∷ entries_item m.arguments ∷ [])

-- basic.consume-ok (class 60, method 21): consumer_tag
abbrev pub consume_ok_method : ConsumeOk → Method
consume_ok_method m = method 60 21 (text_item m.consumer_tag ∷ [])

-- basic.cancel (class 60, method 30): consumer_tag, nowait
abbrev pub cancel_method : Cancel → Method
cancel_method m = method 60 30 (text_item m.consumer_tag ∷ flag_item m.nowait ∷ [])

-- basic.cancel-ok (class 60, method 31): consumer_tag
abbrev pub cancel_ok_method : CancelOk → Method
cancel_ok_method m = method 60 31 (text_item m.consumer_tag ∷ [])

-- basic.publish (class 60, method 40): reserved (2 bytes, 0), exchange, routing_key,
-- mandatory, immediate
abbrev pub publish_method : Publish → Method
publish_method m =
    method 60 40 (text_item m.exchange ∷ text_item m.routing_key
    ∷ flag_item m.mandatory ∷ flag_item m.immediate ∷ [])

-- basic.return (class 60, method 50): reply_code, reply_text, exchange, routing_key
abbrev pub return_method : Return → Method
return_method m =
    method 60 50 (number_item m.reply_code ∷ text_item m.reply_text
    ∷ text_item m.exchange ∷ text_item m.routing_key ∷ [])

-- basic.deliver (class 60, method 60): consumer_tag, delivery_tag, redelivered,
-- exchange, routing_key
abbrev pub deliver_method : Deliver → Method
deliver_method m =
    method 60 60 (text_item m.consumer_tag ∷ number_item m.delivery_tag
    ∷ flag_item m.redelivered ∷ text_item m.exchange ∷ text_item m.routing_key ∷ [])

-- basic.get (class 60, method 70): reserved (2 bytes, 0), queue, no_ack
abbrev pub get_method : Get → Method
get_method m = method 60 70 (text_item m.queue ∷ flag_item m.no_ack ∷ [])

-- basic.get-ok (class 60, method 71): delivery_tag, redelivered, exchange,
-- routing_key, message_count
abbrev pub get_ok_method : GetOk → Method
get_ok_method m =
    method 60 71 (number_item m.delivery_tag ∷ flag_item m.redelivered
    ∷ text_item m.exchange ∷ text_item m.routing_key ∷ number_item m.message_count ∷ [])

-- basic.get-empty (class 60, method 72): reserved (short string, empty)
abbrev pub get_empty_method : GetEmpty → Method
get_empty_method m = method 60 72 ([])

-- basic.ack (class 60, method 80): delivery_tag, multiple
abbrev pub ack_method : Ack → Method
ack_method m = method 60 80 (number_item m.delivery_tag ∷ flag_item m.multiple ∷ [])

-- basic.reject (class 60, method 90): delivery_tag, requeue
abbrev pub reject_method : Reject → Method
reject_method m = method 60 90 (number_item m.delivery_tag ∷ flag_item m.requeue ∷ [])

-- basic.recover-async (class 60, method 100): requeue; the standard deprecates it in
-- favour of recover
abbrev pub recover_async_method : RecoverAsync → Method
recover_async_method m = method 60 100 (flag_item m.requeue ∷ [])

-- basic.recover (class 60, method 110): requeue
abbrev pub recover_method : Recover → Method
recover_method m = method 60 110 (flag_item m.requeue ∷ [])

-- basic.recover-ok (class 60, method 111): no fields
abbrev pub recover_ok_method : RecoverOk → Method
recover_ok_method m = method 60 111 ([])

-- basic.nack (class 60, method 120): delivery_tag, multiple, requeue; RabbitMQ's extension
abbrev pub nack_method : Nack → Method
nack_method m =
    method 60 120 (number_item m.delivery_tag ∷ flag_item m.multiple ∷ flag_item m.requeue ∷ [])

-- the row of class 60 that each variant is, by its method id: Qos 10, QosOk 11, Consume 20,
-- ConsumeOk 21, Cancel 30, CancelOk 31, Publish 40, Return 50, Deliver 60, Get 70, GetOk 71,
-- GetEmpty 72, Ack 80, Reject 90, RecoverAsync 100, Recover 110, RecoverOk 111, Nack 120
abbrev pub method_of : AMQPMethod → Method
method_of (variant.Qos m) = qos_method m
method_of (variant.QosOk m) = qos_ok_method m
method_of (variant.Consume m) = consume_method m
method_of (variant.ConsumeOk m) = consume_ok_method m
method_of (variant.Cancel m) = cancel_method m
method_of (variant.CancelOk m) = cancel_ok_method m
method_of (variant.Publish m) = publish_method m
method_of (variant.Return m) = return_method m
method_of (variant.Deliver m) = deliver_method m
method_of (variant.Get m) = get_method m
method_of (variant.GetOk m) = get_ok_method m
method_of (variant.GetEmpty m) = get_empty_method m
method_of (variant.Ack m) = ack_method m
method_of (variant.Reject m) = reject_method m
method_of (variant.RecoverAsync m) = recover_async_method m
method_of (variant.Recover m) = recover_method m
method_of (variant.RecoverOk m) = recover_ok_method m
method_of (variant.Nack m) = nack_method m
