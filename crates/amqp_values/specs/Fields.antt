-- The canonical bytes of lists of fields, and their size.
use Rattle.std.specs.Prelude.{◌≡◌, ◌≤◌, ℕ, ◌+◌, List, [], ◌∷◌, ◌++◌, length, Bool, false, ◌||◌}
use Rattle.std.specs.Prelude.{Result, Ok, Err, if◌then◌else◌}
use Rattle.amqp_types.specs.Numbers.{bytes1, bytes2, bytes4, bytes8}
use Rattle.amqp_types.specs.Sizes.{measured}
use Rattle.amqp_types.specs.Slots.{number_item, text_item, bytes_item, entries_item, number_form}
use Rattle.amqp_types.specs.Slots.{short_string_form, long_string_form, table_form}
use Rattle.amqp_types.specs.SlotBytes.{form_bytes, is_deep_item, is_long_item}
use Rattle.amqp_types.specs.SlotLaws.{IsFormHeld}
use Rattle.amqp_types.specs.declared.errors.GenError.{GenError}
use Rattle.amqp_types.specs.declared.errors.GenError.TheVariants as errors
use Rattle.amqp_values.specs.declared.fields.Field.{Field}
use Rattle.amqp_values.specs.declared.fields.Field.TheVariants as field

-- the canonical bytes of a field, in the form that its variant names: no bytes for `Nothing`, a
-- byte as it is for flags
unfoldable pub field_bytes : Field → List ℕ
field_bytes field.Nothing = []
field_bytes (field.ShortShortUInt n) = form_bytes (number_form bytes1) (number_item n ∷ [])
field_bytes (field.ShortUInt n) = form_bytes (number_form bytes2) (number_item n ∷ [])
field_bytes (field.LongUInt n) = form_bytes (number_form bytes4) (number_item n ∷ [])
field_bytes (field.LongLongUInt n) = form_bytes (number_form bytes8) (number_item n ∷ [])
field_bytes (field.Flags byte) = byte ∷ []
field_bytes (field.ShortString s) = form_bytes short_string_form (text_item s.now ∷ [])
field_bytes (field.LongString s) = form_bytes long_string_form (bytes_item s.now ∷ [])
field_bytes (field.Table t) = form_bytes table_form (entries_item t.now ∷ [])

-- the field is a table in which tables and arrays nest too deep, more than 64 levels with its own
unfoldable pub is_deep_field : Field → Bool
is_deep_field (field.Table t) = is_deep_item (entries_item t.now)
is_deep_field x = false

-- the field is a long string or a table, and four bytes do not hold its length or one in it
unfoldable pub is_long_field : Field → Bool
is_long_field (field.LongString s) = is_long_item (bytes_item s.now)
is_long_field (field.Table t) = is_long_item (entries_item t.now)
is_long_field x = false

-- the canonical bytes of fields, one after another
unfoldable pub fields_bytes : List Field → List ℕ
fields_bytes [] = []
fields_bytes (x ∷ xs) = field_bytes x ++ fields_bytes xs

-- one of the fields nests too deep
unfoldable pub any_deep_field : List Field → Bool
any_deep_field [] = false
any_deep_field (x ∷ xs) = is_deep_field x || any_deep_field xs

-- one of the fields has a length, its own or one in it, that four bytes do not hold
unfoldable pub any_long_field : List Field → Bool
any_long_field [] = false
any_long_field (x ∷ xs) = is_long_field x || any_long_field xs

-- the number of the canonical bytes of fields; `TooDeep` where one nests too deep, else `TooLong`
-- where one is too long
unfoldable pub fields_size : List Field → Result ℕ GenError
fields_size fields = measured (any_deep_field fields) (any_long_field fields) (fields_bytes fields)

-- the same with so many bytes before them, where a field before them may have been too long
unfoldable pub fields_size_after : ℕ → Bool → List Field → Result ℕ GenError
fields_size_after before long fields =
    if any_deep_field fields then Err errors.TooDeep
    else (if long || any_long_field fields then Err errors.TooLong
    else Ok (before + length (fields_bytes fields)))

-- what a field holds is held in the form that its variant names; of bytes and flags
-- nothing is asked
abbrev pub IsFieldHeld : Field → Type 0
IsFieldHeld (field.ShortShortUInt n) = IsFormHeld (number_form bytes1) (number_item n ∷ [])
IsFieldHeld (field.ShortUInt n) = IsFormHeld (number_form bytes2) (number_item n ∷ [])
IsFieldHeld (field.LongUInt n) = IsFormHeld (number_form bytes4) (number_item n ∷ [])
IsFieldHeld (field.LongLongUInt n) = IsFormHeld (number_form bytes8) (number_item n ∷ [])
IsFieldHeld (field.ShortString s) = IsFormHeld short_string_form (text_item s.now ∷ [])
IsFieldHeld (field.Table t) = IsFormHeld table_form (entries_item t.now ∷ [])
IsFieldHeld x = Unit {0}

-- each of the fields is held
abbrev pub AreFieldsHeld : List Field → Type 0
AreFieldsHeld [] = Unit {0}
AreFieldsHeld (x ∷ xs) = IsFieldHeld x × AreFieldsHeld xs

-- these are the canonical bytes of the fields, this is their size, and there are at most 64 fields
pub record Lists (fields : List Field) (size : Result ℕ GenError) (bytes : List ℕ) : Type 0 where
  pub few : length fields ≤ 64
  pub spelled : fields_bytes fields ≡ bytes
  pub sized : fields_size fields ≡ size
