-- The methods of the class access, which earlier versions of the standard had, and the items
-- of their fields.
-- The fields stand in their order on the wire; a reserved one is decoded and dropped, is written as
-- the value named, and gives no item.
-- Flags beside each other share one byte, the first in its lowest bit (AMQP 0-9-1,
-- section 4.2.5.2).
use Rattle.std.specs.Prelude.{[], ◌∷◌}
use Rattle.amqp_types.specs.Slots.{flag_item, text_item}
use Rattle.amqp_types.specs.Methods.{Method, method}
use Rattle.amqp_connection.specs.declared.methods.access.Request.{Request}
use Rattle.amqp_connection.specs.declared.methods.access.RequestOk.{RequestOk}
use Rattle.amqp_connection.specs.declared.methods.access.AMQPMethod.{AMQPMethod}
use Rattle.amqp_connection.specs.declared.methods.access.AMQPMethod.TheVariants as variant

-- access.request (class 30, method 10): realm, exclusive, passive, active, write, read
abbrev pub request_method : Request → Method
request_method m =
    method 30 10 (text_item m.realm ∷ flag_item m.exclusive ∷ flag_item m.passive
    ∷ flag_item m.active ∷ flag_item m.write ∷ flag_item m.read ∷ [])

-- access.request-ok (class 30, method 11): ticket (reserved here, 2 bytes, 1)
abbrev pub request_ok_method : RequestOk → Method
request_ok_method m = method 30 11 ([])

-- the row of class 30 that each variant is, by its method id: Request 10, RequestOk 11
abbrev pub method_of : AMQPMethod → Method
method_of (variant.Request m) = request_method m
method_of (variant.RequestOk m) = request_ok_method m
