-- The methods of the class confirm, which is RabbitMQ's extension, and the items of their fields.
use Rattle.std.specs.Prelude.{[], ◌∷◌}
use Rattle.amqp_types.specs.Slots.{flag_item}
use Rattle.amqp_types.specs.Methods.{Method, method}
use Rattle.amqp_channel.specs.declared.methods.confirm.Select.{Select}
use Rattle.amqp_channel.specs.declared.methods.confirm.SelectOk.{SelectOk}
use Rattle.amqp_channel.specs.declared.methods.confirm.AMQPMethod.{AMQPMethod}
use Rattle.amqp_channel.specs.declared.methods.confirm.AMQPMethod.TheVariants as variant

-- confirm.select (class 85, method 10): nowait
abbrev pub select_method : Select → Method
select_method m = method 85 10 (flag_item m.nowait ∷ [])

-- confirm.select-ok (class 85, method 11): no fields
abbrev pub select_ok_method : SelectOk → Method
select_ok_method m = method 85 11 ([])

-- the row of class 85 that each variant is, by its method id: Select 10, SelectOk 11
abbrev pub method_of : AMQPMethod → Method
method_of (variant.Select m) = select_method m
method_of (variant.SelectOk m) = select_ok_method m
