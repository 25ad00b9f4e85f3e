-- What programs hold in properties: each option by itself, and so all of them.
use Rattle.std.proofs.Common.{List, [], ◌∷◌}
use Rattle.std.specs.Prelude.{Option, Some, None, option_map}
use Rattle.amqp_types.specs.Numbers.{bytes1, bytes8}
use Rattle.amqp_types.specs.Slots.{Item, number_item, text_item, entries_item, number_form, short_string_form, table_form}
use Rattle.amqp_types.specs.Properties.{Property, properties, later_properties}
use Rattle.amqp_types.specs.PropertyLaws.{AreOptionsHeld}
use Rattle.amqp_properties.specs.Options.{options}
use Rattle.amqp_properties.specs.HeldOptions.{IsHeldOption}
use Rattle.amqp_properties.specs.declared.properties.AMQPProperties.{AMQPProperties}

-- each is held by itself
abbrev AreHeldOptions : List Property → List (Option Item) → Type 0
AreHeldOptions [] [] = Unit {0}
AreHeldOptions [] (option ∷ options) = ⊥
AreHeldOptions (p ∷ ps) [] = ⊥
AreHeldOptions (p ∷ ps) (option ∷ options) = IsHeldOption p.form option × AreHeldOptions ps options

each_held : (ps : List Property) (options : List (Option Item)) → AreHeldOptions ps options → AreOptionsHeld ps options
each_held [] [] h = tt
each_held [] (option ∷ options) h = absurd h
each_held (p ∷ ps) [] h = absurd h
each_held (p ∷ ps) (None ∷ options) h = each_held ps options h.1
each_held (p ∷ ps) (Some item ∷ options) h = (h.0, each_held ps options h.1)

-- Where each of the 14 properties, as far as it is set, is held in its form, all of them are.
pub options_held : (p : AMQPProperties) → IsHeldOption short_string_form (option_map text_item p.content_type)
    → IsHeldOption short_string_form (option_map text_item p.content_encoding) → IsHeldOption table_form (option_map entries_item p.headers)
    → IsHeldOption (number_form bytes1) (option_map number_item p.delivery_mode)
    → IsHeldOption (number_form bytes1) (option_map number_item p.priority) → IsHeldOption short_string_form (option_map text_item p.correlation_id)
    → IsHeldOption short_string_form (option_map text_item p.reply_to) → IsHeldOption short_string_form (option_map text_item p.expiration)
    → IsHeldOption short_string_form (option_map text_item p.message_id)
    → IsHeldOption (number_form bytes8) (option_map number_item p.timestamp)
    → IsHeldOption short_string_form (option_map text_item p.kind) → IsHeldOption short_string_form (option_map text_item p.user_id)
    → IsHeldOption short_string_form (option_map text_item p.app_id)
    → IsHeldOption short_string_form (option_map text_item p.cluster_id) → AreOptionsHeld properties (options p)
unfolding properties later_properties
options_held p a b c d e f g h i j k l m n = each_held properties (options p) (a, (b, (c, (d, (e, (f, (g, (h, (i, (j, (k, (l, (m, (n, tt))))))))))))))
