-- The methods of the class connection, and the items of their fields.
-- The fields stand in their order on the wire; a reserved one is decoded and dropped, is written as
-- the value named, and gives no item.
use Rattle.std.specs.Prelude.{[], ◌∷◌}
use Rattle.amqp_types.specs.Slots.{number_item, text_item, bytes_item, entries_item}
use Rattle.amqp_types.specs.Methods.{Method, method}
use Rattle.amqp_connection.specs.declared.methods.connection.negotiating.Start.{Start}
use Rattle.amqp_connection.specs.declared.methods.connection.negotiating.StartOk.{StartOk}
use Rattle.amqp_connection.specs.declared.methods.connection.negotiating.Secure.{Secure}
use Rattle.amqp_connection.specs.declared.methods.connection.negotiating.SecureOk.{SecureOk}
use Rattle.amqp_connection.specs.declared.methods.connection.negotiating.Tune.{Tune}
use Rattle.amqp_connection.specs.declared.methods.connection.negotiating.TuneOk.{TuneOk}
use Rattle.amqp_connection.specs.declared.methods.connection.opening.Open.{Open}
use Rattle.amqp_connection.specs.declared.methods.connection.opening.OpenOk.{OpenOk}
use Rattle.amqp_connection.specs.declared.methods.connection.opening.Close.{Close}
use Rattle.amqp_connection.specs.declared.methods.connection.opening.CloseOk.{CloseOk}
use Rattle.amqp_connection.specs.declared.methods.connection.opening.Blocked.{Blocked}
use Rattle.amqp_connection.specs.declared.methods.connection.opening.Unblocked.{Unblocked}
use Rattle.amqp_connection.specs.declared.methods.connection.opening.UpdateSecret.{UpdateSecret}
use Rattle.amqp_connection.specs.declared.methods.connection.opening.UpdateSecretOk.{UpdateSecretOk}
use Rattle.amqp_connection.specs.declared.methods.connection.AMQPMethod.{AMQPMethod}
use Rattle.amqp_connection.specs.declared.methods.connection.AMQPMethod.TheVariants as variant

-- connection.start (class 10, method 10): version_major, version_minor, server_properties,
-- mechanisms, locales
abbrev pub start_method : Start → Method
start_method m =
    method 10 10 (number_item m.version_major ∷ number_item m.version_minor
    ∷ entries_item m.server_properties ∷ bytes_item m.mechanisms ∷ bytes_item m.locales ∷ [])

-- connection.start-ok (class 10, method 11): client_properties, mechanism, response, locale
abbrev pub start_ok_method : StartOk → Method
start_ok_method m =
    method 10 11 (entries_item m.client_properties ∷ text_item m.mechanism
    ∷ bytes_item m.response ∷ text_item m.locale ∷ [])

-- connection.secure (class 10, method 20): challenge
abbrev pub secure_method : Secure → Method
secure_method m = method 10 20 (bytes_item m.challenge ∷ [])

-- connection.secure-ok (class 10, method 21): response
abbrev pub secure_ok_method : SecureOk → Method
secure_ok_method m = method 10 21 (bytes_item m.response ∷ [])

-- connection.tune (class 10, method 30): channel_max, frame_max, heartbeat
abbrev pub tune_method : Tune → Method
tune_method m =
    method 10 30
    (number_item m.channel_max ∷ number_item m.frame_max ∷ number_item m.heartbeat ∷ [])

-- connection.tune-ok (class 10, method 31): channel_max, frame_max, heartbeat
abbrev pub tune_ok_method : TuneOk → Method
tune_ok_method m =
    method 10 31
    (number_item m.channel_max ∷ number_item m.frame_max ∷ number_item m.heartbeat ∷ [])

-- connection.open (class 10, method 40): virtual_host, reserved (short string, empty),
-- reserved (flag, false)
abbrev pub open_method : Open → Method
open_method m = method 10 40 (text_item m.virtual_host ∷ [])

-- connection.open-ok (class 10, method 41): reserved (short string, empty)
abbrev pub open_ok_method : OpenOk → Method
open_ok_method m = method 10 41 ([])

-- connection.close (class 10, method 50): reply_code, reply_text, class_id, method_id
abbrev pub close_method : Close → Method
close_method m =
    method 10 50 (number_item m.reply_code ∷ text_item m.reply_text
    ∷ number_item m.class_id ∷ number_item m.method_id ∷ [])

-- connection.close-ok (class 10, method 51): no fields
abbrev pub close_ok_method : CloseOk → Method
close_ok_method m = method 10 51 ([])

-- connection.blocked (class 10, method 60): reason; RabbitMQ's extension
abbrev pub blocked_method : Blocked → Method
blocked_method m = method 10 60 (text_item m.reason ∷ [])

-- connection.unblocked (class 10, method 61): no fields; RabbitMQ's extension
abbrev pub unblocked_method : Unblocked → Method
unblocked_method m = method 10 61 ([])

-- connection.update-secret (class 10, method 70): new_secret, reason; RabbitMQ's extension
abbrev pub update_secret_method : UpdateSecret → Method
update_secret_method m = method 10 70 (bytes_item m.new_secret ∷ text_item m.reason ∷ [])

-- connection.update-secret-ok (class 10, method 71): no fields; RabbitMQ's extension
abbrev pub update_secret_ok_method : UpdateSecretOk → Method
update_secret_ok_method m = method 10 71 ([])

-- the row of class 10 that each variant is, by its method id: Start 10, StartOk 11, Secure 20,
-- SecureOk 21, Tune 30, TuneOk 31, Open 40, OpenOk 41, Close 50, CloseOk 51, Blocked 60, Unblocked
-- 61, UpdateSecret 70, UpdateSecretOk 71
abbrev pub method_of : AMQPMethod → Method
method_of (variant.Start m) = start_method m
method_of (variant.StartOk m) = start_ok_method m
method_of (variant.Secure m) = secure_method m
method_of (variant.SecureOk m) = secure_ok_method m
method_of (variant.Tune m) = tune_method m
method_of (variant.TuneOk m) = tune_ok_method m
method_of (variant.Open m) = open_method m
method_of (variant.OpenOk m) = open_ok_method m
method_of (variant.Close m) = close_method m
method_of (variant.CloseOk m) = close_ok_method m
method_of (variant.Blocked m) = blocked_method m
method_of (variant.Unblocked m) = unblocked_method m
method_of (variant.UpdateSecret m) = update_secret_method m
method_of (variant.UpdateSecretOk m) = update_secret_ok_method m
