-- The canonical bytes of fields, their one strict encoding.
use Rattle.std.specs.Prelude.{ℕ, List, [], ◌∷◌, ◌++◌, take, drop, Bool, false, ◌||◌, Result}
use Rattle.amqp_types.specs.Numbers.{number_bytes}
use Rattle.amqp_types.specs.Flags.{flags_bytes}
use Rattle.amqp_types.specs.Strings.{short_string_bytes, with_length, is_too_long}
use Rattle.amqp_types.specs.Sizes.{measured}
use Rattle.amqp_types.specs.ValueBytes.{table_bytes, is_deep_table, is_long_table}
use Rattle.amqp_types.specs.Slots.{Item, number_item, flag_item, text_item, bytes_item}
use Rattle.amqp_types.specs.Slots.{entries_item, Form, number_form, flags_form, short_string_form}
use Rattle.amqp_types.specs.Slots.{long_string_form, table_form, Slot, kept_slot, reserved_slot}
use Rattle.amqp_types.specs.declared.errors.GenError.{GenError}

-- how many items a form gives
abbrev pub item_count : Form → ℕ
item_count (flags_form count) = count
item_count form = 1

-- the flag that an item is; an item of another kind counts as false
abbrev pub flag_of : Item → Bool
flag_of (flag_item flag) = flag
flag_of item = false

-- the flags that the items are, in their order
abbrev pub flags_of : List Item → List Bool
flags_of [] = []
flags_of (item ∷ items) = flag_of item ∷ flags_of items

-- the bytes of the items of a form
unfoldable pub form_bytes : Form → List Item → List ℕ
form_bytes (number_form width) (number_item n ∷ items) = number_bytes width n
form_bytes (flags_form count) items = flags_bytes (flags_of items)
form_bytes short_string_form (text_item text ∷ items) = short_string_bytes text
form_bytes long_string_form (bytes_item bytes ∷ items) = with_length bytes
form_bytes table_form (entries_item es ∷ items) = table_bytes es
form_bytes form items = []

-- the bytes of fields that give these items
unfoldable pub slots_bytes : List Slot → List Item → List ℕ
slots_bytes [] items = []
slots_bytes (kept_slot form ∷ slots) items =
    form_bytes form (take (item_count form) items)
    ++ slots_bytes slots (drop (item_count form) items)
slots_bytes (reserved_slot form constant ∷ slots) items =
    form_bytes form constant ++ slots_bytes slots items

-- ---- which items are refused

-- tables and arrays nest more than 64 deep in it
abbrev pub is_deep_item : Item → Bool
is_deep_item (entries_item es) = is_deep_table es
is_deep_item item = false

-- four bytes do not hold a length in it
abbrev pub is_long_item : Item → Bool
is_long_item (bytes_item bytes) = is_too_long bytes
is_long_item (entries_item es) = is_long_table es
is_long_item item = false

-- tables and arrays nest more than 64 deep in one of the items
abbrev pub any_deep : List Item → Bool
any_deep [] = false
any_deep (item ∷ items) = is_deep_item item || any_deep items

-- four bytes do not hold a length in one of the items
abbrev pub any_long : List Item → Bool
any_long [] = false
any_long (item ∷ items) = is_long_item item || any_long items

-- the size of the bytes of items, where they are written
unfoldable pub items_size : List Item → List ℕ → Result ℕ GenError
items_size items bytes = measured (any_deep items) (any_long items) bytes
