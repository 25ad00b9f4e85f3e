-- How many bytes values are counted as in measuring: more than any have where they are refused.
use Rattle.std.specs.Prelude.{ℕ, ◌+◌, ◌^◌, nat_le, List, length, Bool, true, if◌then◌else◌}
use Rattle.amqp_types.specs.Values.{FieldValue, Entry, array_value, table_value, values_of}
use Rattle.amqp_types.specs.Values.{entries_of, depth, values_depth, entries_depth}
use Rattle.amqp_types.specs.ValueBytes.{value_bytes, values_bytes, entries_bytes, is_long}

-- tables and arrays nest more than so many levels deep, or four bytes do not hold a length
abbrev pub is_refused : ℕ → ℕ → Bool → Bool
is_refused left deep long = if nat_le deep left then long else true

-- the number of a value's bytes without its tag
abbrev pub value_count : ℕ → FieldValue → ℕ
value_count left v =
    if is_refused left (depth v) (is_long v) then 4 + 2 ^ 32 else length (value_bytes v)

-- the number of the bytes of an array's values
abbrev pub values_count : ℕ → List FieldValue → ℕ
values_count left vs =
    if is_refused left (values_depth (values_of vs)) (is_long (array_value (values_of vs)))
    then 2 ^ 32 else length (values_bytes (values_of vs))

-- the number of the bytes of a table's entries
abbrev pub entries_count : ℕ → List Entry → ℕ
entries_count left es =
    if is_refused left (entries_depth (entries_of es)) (is_long (table_value (entries_of es)))
    then 2 ^ 32 else length (entries_bytes (entries_of es))
