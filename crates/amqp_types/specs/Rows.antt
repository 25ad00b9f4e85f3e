-- The table of methods: of each class its methods, each with its id and its fields in the order in
-- which they stand.
-- They are those of AMQP 0-9-1's reference of classes and methods, with the class access of earlier
-- versions and the extensions that RabbitMQ has made.
use Rattle.std.specs.Prelude.{ℕ, ◌==◌, false, List, [], ◌∷◌, Option, option_and_then}
use Rattle.std.specs.Map.{lookup}
use Rattle.amqp_types.specs.Numbers.{bytes1, bytes2, bytes4, bytes8}
use Rattle.amqp_types.specs.Slots.{number_item, flag_item, text_item, bytes_item, number_form}
use Rattle.amqp_types.specs.Slots.{flags_form, short_string_form, long_string_form, table_form}
use Rattle.amqp_types.specs.Slots.{Slot, kept_slot, reserved_slot}

-- ---- what rows are made of

-- a number of 1 byte
abbrev octet : Slot
octet = kept_slot (number_form bytes1)

-- a number of 2 bytes
abbrev short : Slot
short = kept_slot (number_form bytes2)

-- a number of 4 bytes
abbrev long : Slot
long = kept_slot (number_form bytes4)

-- a number of 8 bytes
abbrev long_long : Slot
long_long = kept_slot (number_form bytes8)

-- as many flags in one byte: bits that stand side by side share it (section 4.2.5.2)
abbrev flags : ℕ → Slot
flags count = kept_slot (flags_form count)

-- a short string: a length of 1 byte, and that many bytes of UTF-8
abbrev short_string : Slot
short_string = kept_slot short_string_form

-- a long string: a length of 4 bytes, and that many bytes
abbrev long_string : Slot
long_string = kept_slot long_string_form

-- a table: the length of its entries in 4 bytes, and the entries (section 4.2.5.5)
abbrev table : Slot
table = kept_slot table_form

-- 2 bytes that are read and dropped, and written as this number
abbrev reserved_short : ℕ → Slot
reserved_short n = reserved_slot (number_form bytes2) (number_item n ∷ [])

-- 4 bytes that are read and dropped, and written as this number
abbrev reserved_long : ℕ → Slot
reserved_long n = reserved_slot (number_form bytes4) (number_item n ∷ [])

-- a byte of one flag that is read and dropped, and written as false
abbrev reserved_flag : Slot
reserved_flag = reserved_slot (flags_form 1) (flag_item false ∷ [])

-- a short string that is read and dropped, and written empty
abbrev reserved_short_string : Slot
reserved_short_string = reserved_slot short_string_form (text_item [] ∷ [])

-- a long string that is read and dropped, and written empty
abbrev reserved_long_string : Slot
reserved_long_string = reserved_slot long_string_form (bytes_item [] ∷ [])

-- a method's id and its fields
abbrev pub Row : Type 0
Row = ℕ × List Slot

-- ---- the methods of each class

-- opening and closing a connection, and what both peers agree on
abbrev pub connection_rows : List Row
connection_rows =
    -- start: version_major, version_minor, server_properties, mechanisms, locales
    (10, octet ∷ octet ∷ table ∷ long_string ∷ long_string ∷ []) ∷
    -- start-ok: client_properties, mechanism, response, locale
    (11, table ∷ short_string ∷ long_string ∷ short_string ∷ []) ∷
    -- secure: challenge
    (20, long_string ∷ []) ∷
    -- secure-ok: response
    (21, long_string ∷ []) ∷
    -- tune: channel_max, frame_max, heartbeat
    (30, short ∷ long ∷ short ∷ []) ∷
    -- tune-ok: channel_max, frame_max, heartbeat
    (31, short ∷ long ∷ short ∷ []) ∷
    -- open: virtual_host, reserved, reserved
    (40, short_string ∷ reserved_short_string ∷ reserved_flag ∷ []) ∷
    -- open-ok: reserved
    (41, reserved_short_string ∷ []) ∷
    -- close: reply_code, reply_text, class_id, method_id
    (50, short ∷ short_string ∷ short ∷ short ∷ []) ∷
    -- close-ok
    (51, []) ∷
    -- blocked: reason
    (60, short_string ∷ []) ∷
    -- unblocked
    (61, []) ∷
    -- update-secret: new_secret, reason
    (70, long_string ∷ short_string ∷ []) ∷
    -- update-secret-ok
    (71, []) ∷
    []

-- opening and closing a channel, and its flow of content
abbrev pub channel_rows : List Row
channel_rows =
    -- open: reserved
    (10, reserved_short_string ∷ []) ∷
    -- open-ok: reserved
    (11, reserved_long_string ∷ []) ∷
    -- flow: active
    (20, flags 1 ∷ []) ∷
    -- flow-ok: active
    (21, flags 1 ∷ []) ∷
    -- close: reply_code, reply_text, class_id, method_id
    (40, short ∷ short_string ∷ short ∷ short ∷ []) ∷
    -- close-ok
    (41, []) ∷
    []

-- access to a realm, as earlier versions of the standard had it
abbrev pub access_rows : List Row
access_rows =
    -- request: realm, exclusive, passive, active, write, read
    (10, short_string ∷ flags 5 ∷ []) ∷
    -- request-ok: reserved
    (11, reserved_short 1 ∷ []) ∷
    []

-- exchanges, and how they are bound to one another
abbrev pub exchange_rows : List Row
exchange_rows =
    -- declare: reserved, exchange, kind, passive, durable, auto_delete, internal, nowait, arguments
    (10, reserved_short 0 ∷ short_string ∷ short_string ∷ flags 5 ∷ table ∷ []) ∷
    -- declare-ok
    (11, []) ∷
    -- delete: reserved, exchange, if_unused, nowait
    (20, reserved_short 0 ∷ short_string ∷ flags 2 ∷ []) ∷
    -- delete-ok
    (21, []) ∷
    -- bind: reserved, destination, source, routing_key, nowait, arguments
    (30, reserved_short 0 ∷ short_string ∷ short_string ∷ short_string ∷ flags 1 ∷ table ∷ []) ∷
    -- bind-ok
    (31, []) ∷
    -- unbind: reserved, destination, source, routing_key, nowait, arguments
    (40, reserved_short 0 ∷ short_string ∷ short_string ∷ short_string ∷ flags 1 ∷ table ∷ []) ∷
    -- unbind-ok
    (51, []) ∷
    []

-- queues, and how they are bound to exchanges
abbrev pub queue_rows : List Row
queue_rows =
    -- declare: reserved, queue, passive, durable, exclusive, auto_delete, nowait, arguments
    (10, reserved_short 0 ∷ short_string ∷ flags 5 ∷ table ∷ []) ∷
    -- declare-ok: queue, message_count, consumer_count
    (11, short_string ∷ long ∷ long ∷ []) ∷
    -- bind: reserved, queue, exchange, routing_key, nowait, arguments
    (20, reserved_short 0 ∷ short_string ∷ short_string ∷ short_string ∷ flags 1 ∷ table ∷ []) ∷
    -- bind-ok
    (21, []) ∷
    -- purge: reserved, queue, nowait
    (30, reserved_short 0 ∷ short_string ∷ flags 1 ∷ []) ∷
    -- purge-ok: message_count
    (31, long ∷ []) ∷
    -- delete: reserved, queue, if_unused, if_empty, nowait
    (40, reserved_short 0 ∷ short_string ∷ flags 3 ∷ []) ∷
    -- delete-ok: message_count
    (41, long ∷ []) ∷
    -- unbind: reserved, queue, exchange, routing_key, arguments
    (50, reserved_short 0 ∷ short_string ∷ short_string ∷ short_string ∷ table ∷ []) ∷
    -- unbind-ok
    (51, []) ∷
    []

-- sending messages, and receiving and acknowledging them
abbrev pub basic_rows : List Row
basic_rows =
    -- qos: reserved (the standard's prefetch_size), prefetch_count, global
    (10, reserved_long 0 ∷ short ∷ flags 1 ∷ []) ∷
    -- qos-ok
    (11, []) ∷
    -- consume: reserved, queue, consumer_tag, no_local, no_ack, exclusive, nowait, arguments
    (20, reserved_short 0 ∷ short_string ∷ short_string ∷ flags 4 ∷ table ∷ []) ∷
    -- consume-ok: consumer_tag
    (21, short_string ∷ []) ∷
    -- cancel: consumer_tag, nowait
    (30, short_string ∷ flags 1 ∷ []) ∷
    -- cancel-ok: consumer_tag
    (31, short_string ∷ []) ∷
    -- publish: reserved, exchange, routing_key, mandatory, immediate
    (40, reserved_short 0 ∷ short_string ∷ short_string ∷ flags 2 ∷ []) ∷
    -- return: reply_code, reply_text, exchange, routing_key
    (50, short ∷ short_string ∷ short_string ∷ short_string ∷ []) ∷
    -- deliver: consumer_tag, delivery_tag, redelivered, exchange, routing_key
    (60, short_string ∷ long_long ∷ flags 1 ∷ short_string ∷ short_string ∷ []) ∷
    -- get: reserved, queue, no_ack
    (70, reserved_short 0 ∷ short_string ∷ flags 1 ∷ []) ∷
    -- get-ok: delivery_tag, redelivered, exchange, routing_key, message_count
    (71, long_long ∷ flags 1 ∷ short_string ∷ short_string ∷ long ∷ []) ∷
    -- get-empty: reserved
    (72, reserved_short_string ∷ []) ∷
    -- ack: delivery_tag, multiple
    (80, long_long ∷ flags 1 ∷ []) ∷
    -- reject: delivery_tag, requeue
    (90, long_long ∷ flags 1 ∷ []) ∷
    -- recover-async: requeue
    (100, flags 1 ∷ []) ∷
    -- recover: requeue
    (110, flags 1 ∷ []) ∷
    -- recover-ok
    (111, []) ∷
    -- nack: delivery_tag, multiple, requeue
    (120, long_long ∷ flags 2 ∷ []) ∷
    []

-- confirms of what was published
abbrev pub confirm_rows : List Row
confirm_rows =
    -- select: nowait
    (10, flags 1 ∷ []) ∷
    -- select-ok
    (11, []) ∷
    []

-- transactions
abbrev pub tx_rows : List Row
tx_rows =
    -- select
    (10, []) ∷
    -- select-ok
    (11, []) ∷
    -- commit
    (20, []) ∷
    -- commit-ok
    (21, []) ∷
    -- rollback
    (30, []) ∷
    -- rollback-ok
    (31, []) ∷
    []

-- ---- the classes

-- the id of each class, and the rows of its methods
abbrev pub classes : List (ℕ × List Row)
classes =
    (10, connection_rows) ∷
    (20, channel_rows) ∷
    (30, access_rows) ∷
    (40, exchange_rows) ∷
    (50, queue_rows) ∷
    (60, basic_rows) ∷
    (85, confirm_rows) ∷
    (90, tx_rows) ∷
    []

-- the rows of a class
unfoldable pub rows_of : ℕ → Option (List Row)
rows_of class = lookup (λ id. class == id) classes

-- the fields of a method
unfoldable pub slots_at : ℕ → ℕ → Option (List Slot)
slots_at class id = option_and_then (λ rows. lookup (λ k. id == k) rows) (rows_of class)
