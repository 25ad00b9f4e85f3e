-- The canonical bytes of properties, their one strict encoding.
use Rattle.std.specs.Prelude.{ℕ, ◌+◌, ◌^◌, List, [], ◌∷◌, ◌++◌, Bool, false}
use Rattle.std.specs.Prelude.{◌||◌, Option, Some, None, Result}
use Rattle.amqp_types.specs.Numbers.{bytes2}
use Rattle.amqp_types.specs.Sizes.{measured}
use Rattle.amqp_types.specs.Slots.{Item, number_item, Form, number_form}
use Rattle.amqp_types.specs.SlotBytes.{form_bytes, is_deep_item, is_long_item}
use Rattle.amqp_types.specs.Properties.{Property, properties}
use Rattle.amqp_types.specs.declared.errors.GenError.{GenError}

-- what a property adds to the mask, where its bit is worth so much
unfoldable pub worth_of : ℕ → Option Item → ℕ
worth_of worth None = 0
worth_of worth (Some item) = worth

-- the mask has the bit of each property that is set, and no other
unfoldable pub mask_of : List Property → List (Option Item) → ℕ
mask_of [] options = 0
mask_of (p ∷ ps) [] = 0
mask_of (p ∷ ps) (option ∷ options) = worth_of (2 ^ p.bit) option + mask_of ps options

-- a property in its form where it is set, and no bytes where it is not
unfoldable pub optional_bytes : Form → Option Item → List ℕ
optional_bytes form None = []
optional_bytes form (Some item) = form_bytes form (item ∷ [])

-- the properties that are set, one after another
unfoldable pub set_bytes : List Property → List (Option Item) → List ℕ
set_bytes [] options = []
set_bytes (p ∷ ps) [] = []
set_bytes (p ∷ ps) (option ∷ options) = optional_bytes p.form option ++ set_bytes ps options

-- the mask, and the properties that are set
unfoldable pub properties_bytes : List (Option Item) → List ℕ
properties_bytes options =
    form_bytes (number_form bytes2) (number_item (mask_of properties options) ∷ [])
    ++ set_bytes properties options

-- ---- which properties are refused

-- tables and arrays nest more than 64 deep in a property that is set
unfoldable pub is_deep_option : Option Item → Bool
is_deep_option None = false
is_deep_option (Some item) = is_deep_item item

-- four bytes do not hold a length in a property that is set
unfoldable pub is_long_option : Option Item → Bool
is_long_option None = false
is_long_option (Some item) = is_long_item item

-- one of the properties nests too deep
unfoldable pub any_deep_option : List (Option Item) → Bool
any_deep_option [] = false
any_deep_option (option ∷ options) = is_deep_option option || any_deep_option options

-- one of the properties has a length that four bytes do not hold
unfoldable pub any_long_option : List (Option Item) → Bool
any_long_option [] = false
any_long_option (option ∷ options) = is_long_option option || any_long_option options

-- the size of the canonical bytes, where there are any
unfoldable pub properties_size : List (Option Item) → Result ℕ GenError
properties_size options =
    measured (any_deep_option options) (any_long_option options) (properties_bytes options)
