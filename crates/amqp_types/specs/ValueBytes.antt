-- The canonical bytes of values, their one strict encoding.
use Rattle.std.specs.Prelude.{ℕ, nat_lt, ◌||◌, List, [], ◌∷◌, ◌++◌, Bool, false, Result}
use Rattle.amqp_types.specs.Numbers.{NumberWidth, bytes1, bytes2, bytes4, bytes8, number_bytes}
use Rattle.amqp_types.specs.Signed.{signed_bytes}
use Rattle.amqp_types.specs.Booleans.{boolean_bytes}
use Rattle.amqp_types.specs.Strings.{with_length, is_too_long, short_string_bytes}
use Rattle.amqp_types.specs.Sizes.{measured}
use Rattle.amqp_types.specs.Values.{FieldValue, FieldValues, FieldEntries, Entry, SignedKind}
use Rattle.amqp_types.specs.Values.{UnsignedKind, short_short_int, short_int, long_int}
use Rattle.amqp_types.specs.Values.{long_long_int, short_short_uint, short_uint, long_uint, float}
use Rattle.amqp_types.specs.Values.{double, timestamp, boolean_value, signed_value}
use Rattle.amqp_types.specs.Values.{unsigned_value, decimal_value, bytes_value, array_value}
use Rattle.amqp_types.specs.Values.{table_value, void_value, no_values, next_value, no_entries}
use Rattle.amqp_types.specs.Values.{next_entry, values_of, entries_of, depth}
use Rattle.amqp_types.specs.Tags.{tag_byte, tag_of}
use Rattle.amqp_types.specs.declared.errors.GenError.{GenError}
use Rattle.amqp_types.specs.Constants.{max_depth}

-- the width of each kind of signed number
abbrev pub signed_width : SignedKind → NumberWidth
signed_width short_short_int = bytes1
signed_width short_int = bytes2
signed_width long_int = bytes4
signed_width long_long_int = bytes8

-- the width of each kind of unsigned number; the bits of a float, a double and a timestamp
-- are numbers too
abbrev pub unsigned_width : UnsignedKind → NumberWidth
unsigned_width short_short_uint = bytes1
unsigned_width short_uint = bytes2
unsigned_width long_uint = bytes4
unsigned_width float = bytes4
unsigned_width double = bytes8
unsigned_width timestamp = bytes8

-- the scale in 1 byte, and after it the number in 4
abbrev pub decimal_bytes : ℕ → ℕ → List ℕ
decimal_bytes scale n = number_bytes bytes1 scale ++ number_bytes bytes4 n

-- the bytes of values
abbrev mutual
  -- a value without its tag
  pub value_bytes : FieldValue → List ℕ
  value_bytes (boolean_value b) = boolean_bytes b
  value_bytes (signed_value kind n) = signed_bytes (signed_width kind) n
  value_bytes (unsigned_value kind n) = number_bytes (unsigned_width kind) n
  value_bytes (decimal_value scale n) = decimal_bytes scale n
  value_bytes (bytes_value kind bytes) = with_length bytes
  value_bytes (array_value vs) = with_length (values_bytes vs)
  value_bytes (table_value es) = with_length (entries_bytes es)
  value_bytes void_value = []

  -- each value after its tag
  pub values_bytes : FieldValues → List ℕ
  values_bytes no_values = []
  values_bytes (next_value v vs) = (tag_byte (tag_of v) ∷ value_bytes v) ++ values_bytes vs

  -- each key, and after it the tag and the value
  pub entries_bytes : FieldEntries → List ℕ
  entries_bytes no_entries = []
  entries_bytes (next_entry k v es) =
      (short_string_bytes k ++ tag_byte (tag_of v) ∷ value_bytes v) ++ entries_bytes es

-- a value after its tag
abbrev pub tagged_bytes : FieldValue → List ℕ
tagged_bytes v = tag_byte (tag_of v) ∷ value_bytes v

-- four bytes do not hold a length in it
abbrev mutual
  -- in the value itself, or inside it
  pub is_long : FieldValue → Bool
  is_long (boolean_value b) = false
  is_long (signed_value kind n) = false
  is_long (unsigned_value kind n) = false
  is_long (decimal_value scale n) = false
  is_long (bytes_value kind bytes) = is_too_long bytes
  is_long (array_value vs) = any_value_long vs || is_too_long (values_bytes vs)
  is_long (table_value es) = any_entry_long es || is_too_long (entries_bytes es)
  is_long void_value = false

  -- in one of the values
  pub any_value_long : FieldValues → Bool
  any_value_long no_values = false
  any_value_long (next_value v vs) = is_long v || any_value_long vs

  -- in the value of one of the entries
  pub any_entry_long : FieldEntries → Bool
  any_entry_long no_entries = false
  any_entry_long (next_entry k v es) = is_long v || any_entry_long es

-- tables and arrays nest more than 64 deep
abbrev pub is_deep : FieldValue → Bool
is_deep v = nat_lt max_depth (depth v)

-- the size in bytes of a value after its tag, or why it is not written
abbrev pub tagged_size : FieldValue → Result ℕ GenError
tagged_size v = measured (is_deep v) (is_long v) (tagged_bytes v)

-- the length of the values, in 4 bytes, and each value after its tag
abbrev pub array_bytes : List FieldValue → List ℕ
array_bytes vs = value_bytes (array_value (values_of vs))

-- the size in bytes of an array, or why it is not written
abbrev pub array_size : List FieldValue → Result ℕ GenError
array_size vs =
    measured (is_deep (array_value (values_of vs)))
    (is_long (array_value (values_of vs))) (array_bytes vs)

-- the length of the entries, in 4 bytes, and each key, tag and value
unfoldable pub table_bytes : List Entry → List ℕ
table_bytes es = value_bytes (table_value (entries_of es))

-- tables and arrays nest more than 64 deep, the table itself counted
unfoldable pub is_deep_table : List Entry → Bool
is_deep_table es = is_deep (table_value (entries_of es))

-- four bytes do not hold the length of the table, or one inside it
unfoldable pub is_long_table : List Entry → Bool
is_long_table es = is_long (table_value (entries_of es))

-- the size in bytes of a table, or why it is not written
abbrev pub table_size : List Entry → Result ℕ GenError
table_size es = measured (is_deep_table es) (is_long_table es) (table_bytes es)
