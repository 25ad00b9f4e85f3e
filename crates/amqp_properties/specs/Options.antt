-- Properties as a list of 14 options, in the order in which they are encoded.
use Rattle.std.specs.Prelude.{List, [], ◌∷◌, Option, option_map}
use Rattle.amqp_types.specs.Slots.{Item, number_item, text_item, entries_item}
use Rattle.amqp_properties.specs.declared.properties.AMQPProperties.{AMQPProperties}
use Rattle.amqp_properties.specs.declared.parsing.LaterProperties.{LaterProperties}

-- The 14 properties in the order of the mask, from bit 15 down to bit 2 (AMQP 0-9-1, section
-- 4.2.6.1), each with its item where it is set.
abbrev pub options : AMQPProperties → List (Option Item)
options p =
    option_map text_item p.content_type ∷
    option_map text_item p.content_encoding ∷
    option_map entries_item p.headers ∷
    option_map number_item p.delivery_mode ∷
    option_map number_item p.priority ∷
    option_map text_item p.correlation_id ∷
    option_map text_item p.reply_to ∷
    option_map text_item p.expiration ∷
    option_map text_item p.message_id ∷
    option_map number_item p.timestamp ∷
    option_map text_item p.kind ∷
    option_map text_item p.user_id ∷
    option_map text_item p.app_id ∷
    option_map text_item p.cluster_id ∷
    []

-- the last seven of them, from the expiration on
abbrev pub later_options : LaterProperties → List (Option Item)
later_options p =
    option_map text_item p.expiration ∷
    option_map text_item p.message_id ∷
    option_map number_item p.timestamp ∷
    option_map text_item p.kind ∷
    option_map text_item p.user_id ∷
    option_map text_item p.app_id ∷
    option_map text_item p.cluster_id ∷
    []
