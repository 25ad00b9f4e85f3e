-- The laws of values, arrays and tables.
use Rattle.std.specs.Prelude.{◌≡◌, ◌↔◌, ◌≤◌, ◌<◌, ℕ, List, ◌++◌, length, false}
use Rattle.std.specs.Prelude.{Result, Ok, FitsSigned, ◌≢◌, Some}
use Rattle.std.specs.Ordering.{nat_cmp}
use Rattle.std.specs.Cmp.Lexicographic.{slice_cmp}
use Rattle.std.specs.BTreeMap.{insert_entry}
use Rattle.std.specs.Str.{IsUtf8}
use Rattle.amqp_types.specs.Levels.{Level}
use Rattle.amqp_types.specs.Judging.{took}
use Rattle.amqp_types.specs.Numbers.{bytes1, bytes4, width_of, number_limit}
use Rattle.amqp_types.specs.Values.{FieldValue, FieldValues, FieldEntries, Entry, boolean_value}
use Rattle.amqp_types.specs.Values.{signed_value, unsigned_value, decimal_value, bytes_value}
use Rattle.amqp_types.specs.Values.{array_value, table_value, void_value, no_values, next_value}
use Rattle.amqp_types.specs.Values.{no_entries, next_entry, pairs, values_of, entries_of, depth}
use Rattle.amqp_types.specs.Settling.{IsRising, value_at, IsSettled, settled}
use Rattle.amqp_types.specs.ValueBytes.{signed_width, unsigned_width, tagged_bytes, tagged_size}
use Rattle.amqp_types.specs.ValueBytes.{array_bytes, array_size, table_bytes, table_size, is_long}
use Rattle.amqp_types.specs.ValueJudging.{judge_value, judge_field_value}
use Rattle.amqp_types.specs.ValueJudging.{judge_field_array, judge_field_table}
use Rattle.amqp_types.specs.ValueSpelling.{SpellsValue, SpellsFieldArray, SpellsFieldTable}
use Rattle.amqp_types.specs.FormLaws.{IsLawful}
use Rattle.amqp_types.specs.declared.errors.GenError.{GenError}

-- The laws of a form of bytes hold of a tag and its value, however deep tables and arrays may nest.
abbrev pub ValuesAreLawful : Type 0
ValuesAreLawful =
    (depth_left : ℕ)
    → IsLawful (judge_value depth_left) (λ level. SpellsValue level depth_left) tagged_bytes

-- The laws hold of arrays of at most 64 levels, without a tag.
abbrev pub ArraysAreLawful : Type 0
ArraysAreLawful = IsLawful judge_field_array SpellsFieldArray array_bytes

-- The laws hold of tables of at most 64 levels, without a tag.
abbrev pub TablesAreLawful : Type 0
TablesAreLawful = IsLawful judge_field_table SpellsFieldTable table_bytes

-- what is encoded with nesting of so many levels is neither long nor deeper
abbrev pub SpelledIsBounded : Type 0
SpelledIsBounded =
    (level : Level) (depth_left : ℕ) (bytes : List ℕ) (v : FieldValue)
    → SpellsValue level depth_left bytes v → (is_long v ≡ false) × (depth v ≤ depth_left)

-- of duplicate keys the last one wins: putting the entries into a table one after
-- another does just that
abbrev pub SettledIsSettling : Type 0
SettledIsSettling =
    (entries table : List Entry) → IsSettled table entries ↔ (table ≡ settled entries)

-- An entry that is put into a table gives its key its value, and leaves the values of all other
-- keys and the ascending order.
pub record InsertChangesOneKey : Type 0 where
  pub order : (es : List Entry) (key : List ℕ) (v : FieldValue)
      → IsRising es → IsRising (insert_entry (slice_cmp nat_cmp) es key v)
  pub own : (es : List Entry) (key : List ℕ) (v : FieldValue)
      → value_at key (insert_entry (slice_cmp nat_cmp) es key v) ≡ Some v
  pub others : (es : List Entry) (key other : List ℕ) (v : FieldValue) → other ≢ key
      → value_at other (insert_entry (slice_cmp nat_cmp) es key v) ≡ value_at other es

-- ---- what programs hold

-- numbers within their ranges, keys that are short strings, and tables in the order of their keys
abbrev mutual
  -- a value, with all that is inside it
  pub IsHeld : FieldValue → Type 0
  IsHeld (boolean_value b) = Unit {0}
  IsHeld (signed_value kind n) = FitsSigned (width_of (signed_width kind)) n
  IsHeld (unsigned_value kind n) = n < number_limit (unsigned_width kind)
  IsHeld (decimal_value scale n) = (scale < number_limit bytes1) × (n < number_limit bytes4)
  IsHeld (bytes_value kind bytes) = Unit {0}
  IsHeld (array_value vs) = AllHeld vs
  IsHeld (table_value es) = IsRising (pairs es) × AllEntriesHeld es
  IsHeld void_value = Unit {0}

  -- each of the values
  pub AllHeld : FieldValues → Type 0
  AllHeld no_values = Unit {0}
  AllHeld (next_value v vs) = IsHeld v × AllHeld vs

  -- each key, of at most 255 bytes of UTF-8, and each value
  pub AllEntriesHeld : FieldEntries → Type 0
  AllEntriesHeld no_entries = Unit {0}
  AllEntriesHeld (next_entry k v es) = (length k < 256) × IsUtf8 k × IsHeld v × AllEntriesHeld es

-- Canonical bytes of what is neither long nor too deep are read back, whatever follows.
pub record HeldIsReadBack : Type 0 where
  pub value : (v : FieldValue) (rest : List ℕ) → IsHeld v
      → tagged_size v ≡ Ok (length (tagged_bytes v))
      → judge_field_value (tagged_bytes v ++ rest) ≡ took v (length (tagged_bytes v))
  pub array : (vs : List FieldValue) (rest : List ℕ)
      → AllHeld (values_of vs) → array_size vs ≡ Ok (length (array_bytes vs))
      → judge_field_array (array_bytes vs ++ rest) ≡ took vs (length (array_bytes vs))
  pub table : (es : List Entry) (rest : List ℕ) → IsRising es
      → AllEntriesHeld (entries_of es) → table_size es ≡ Ok (length (table_bytes es))
      → judge_field_table (table_bytes es ++ rest) ≡ took es (length (table_bytes es))

-- What was read has a size, which is no more than it used.
pub record IsNoLonger (size : Result ℕ GenError) (bytes : List ℕ) (used : ℕ) : Type 0 where
  pub sized : size ≡ Ok (length bytes)
  pub shorter : length bytes ≤ used
