-- The methods of the class channel, and the items of their fields.
-- The fields stand in their order on the wire; a reserved one is decoded and dropped, is written as
-- the value named, and gives no item.
use Rattle.std.specs.Prelude.{[], ◌∷◌}
use Rattle.amqp_types.specs.Slots.{number_item, flag_item, text_item}
use Rattle.amqp_types.specs.Methods.{Method, method}
use Rattle.amqp_channel.specs.declared.methods.channel.Open.{Open}
use Rattle.amqp_channel.specs.declared.methods.channel.OpenOk.{OpenOk}
use Rattle.amqp_channel.specs.declared.methods.channel.Flow.{Flow}
use Rattle.amqp_channel.specs.declared.methods.channel.FlowOk.{FlowOk}
use Rattle.amqp_channel.specs.declared.methods.channel.Close.{Close}
use Rattle.amqp_channel.specs.declared.methods.channel.CloseOk.{CloseOk}
use Rattle.amqp_channel.specs.declared.methods.channel.AMQPMethod.{AMQPMethod}
use Rattle.amqp_channel.specs.declared.methods.channel.AMQPMethod.TheVariants as variant

-- channel.open (class 20, method 10): reserved (short string, empty)
abbrev pub open_method : Open → Method
open_method m = method 20 10 ([])

-- channel.open-ok (class 20, method 11): reserved (long string, empty)
abbrev pub open_ok_method : OpenOk → Method
open_ok_method m = method 20 11 ([])

-- channel.flow (class 20, method 20): active
abbrev pub flow_method : Flow → Method
flow_method m = method 20 20 (flag_item m.active ∷ [])

-- channel.flow-ok (class 20, method 21): active
abbrev pub flow_ok_method : FlowOk → Method
flow_ok_method m = method 20 21 (flag_item m.active ∷ [])

-- channel.close (class 20, method 40): reply_code, reply_text, class_id, method_id
abbrev pub close_method : Close → Method
close_method m =
    method 20 40 (number_item m.reply_code ∷ text_item m.reply_text
    ∷ number_item m.class_id ∷ number_item m.method_id ∷ [])

-- channel.close-ok (class 20, method 41): no fields
abbrev pub close_ok_method : CloseOk → Method
close_ok_method m = method 20 41 ([])

-- the row of class 20 that each variant is, by its method id: Open 10, OpenOk 11, Flow 20, FlowOk
-- 21, Close 40, CloseOk 41
abbrev pub method_of : AMQPMethod → Method
method_of (variant.Open m) = open_method m
method_of (variant.OpenOk m) = open_ok_method m
method_of (variant.Flow m) = flow_method m
method_of (variant.FlowOk m) = flow_ok_method m
method_of (variant.Close m) = close_method m
method_of (variant.CloseOk m) = close_ok_method m
