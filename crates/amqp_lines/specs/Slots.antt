-- The text of the fields of methods and of properties.
use Rattle.std.specs.Prelude.{ℕ, ◌==◌, List, [], ◌∷◌, ◌++◌, take, drop, codes}
use Rattle.std.specs.Prelude.{Option, Some, None, unwrap_or}
use Rattle.std.specs.Fmt.{decimal}
use Rattle.std.specs.Map.{lookup}
use Rattle.amqp_types.specs.Slots.{Item, number_item, text_item, bytes_item, entries_item, Form}
use Rattle.amqp_types.specs.Slots.{number_form, flags_form, short_string_form, long_string_form}
use Rattle.amqp_types.specs.Slots.{table_form, Slot, kept_slot, reserved_slot}
use Rattle.amqp_types.specs.SlotBytes.{item_count, flags_of}
use Rattle.amqp_types.specs.Properties.{Property}
use Rattle.amqp_lines.specs.Words.{quoted, signs}
use Rattle.amqp_lines.specs.Values.{table_text}

-- ---- fields

-- the items of a form as one word: a number, flags, a string or a table
unfoldable pub form_text : Form → List Item → List ℕ
form_text (number_form width) (number_item n ∷ items) = decimal n
form_text (flags_form count) items = signs (flags_of items)
form_text short_string_form (text_item text ∷ items) = quoted text
form_text long_string_form (bytes_item bytes ∷ items) = quoted bytes
form_text table_form (entries_item es ∷ items) = table_text es
form_text form items = []

-- a word for each field that is not reserved, with a space in front
unfoldable pub slots_text : List Slot → List Item → List ℕ
slots_text [] items = []
slots_text (kept_slot form ∷ slots) items =
    (codes " " ++ form_text form (take (item_count form) items))
    ++ slots_text slots (drop (item_count form) items)
slots_text (reserved_slot form constant ∷ slots) items = slots_text slots items

-- ---- properties

-- the name of each property by its bit in the mask
abbrev pub property_names : List (ℕ × List ℕ)
property_names =
    (15, codes "content_type") ∷
    (14, codes "content_encoding") ∷
    (13, codes "headers") ∷
    (12, codes "delivery_mode") ∷
    (11, codes "priority") ∷
    (10, codes "correlation_id") ∷
    (9, codes "reply_to") ∷
    (8, codes "expiration") ∷
    (7, codes "message_id") ∷
    (6, codes "timestamp") ∷
    (5, codes "kind") ∷
    (4, codes "user_id") ∷
    (3, codes "app_id") ∷
    (2, codes "cluster_id") ∷
    []

-- the name of the property with this bit; a bit of no property has the empty name
unfoldable pub property_name : ℕ → List ℕ
property_name bit = unwrap_or (lookup (λ k. bit == k) property_names) []

-- a property that is set, with a space in front
unfoldable pub option_text : Property → Option Item → List ℕ
option_text p None = []
option_text p (Some item) =
    codes " " ++ (property_name p.bit ++ (codes "=" ++ form_text p.form (item ∷ [])))

-- each property that is set, in the order in which they stand
unfoldable pub set_text : List Property → List (Option Item) → List ℕ
set_text [] options = []
set_text (p ∷ ps) [] = []
set_text (p ∷ ps) (option ∷ options) = option_text p option ++ set_text ps options
