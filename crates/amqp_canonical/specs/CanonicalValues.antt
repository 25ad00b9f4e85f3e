-- The canonical bytes of values, arrays and tables that were decoded. Tables and arrays may nest
-- `depth_left` deep in them.
use Rattle.std.specs.Prelude.{ℕ, List, map}
use Rattle.amqp_types.specs.Settling.{settled}
use Rattle.amqp_types.specs.ValueBytes.{array_bytes, table_bytes, tagged_bytes, value_bytes}
use Rattle.amqp_types.specs.ValueJudging.{filled, nested, judge_array, judge_behind}
use Rattle.amqp_types.specs.ValueJudging.{judge_entry, judge_table, judge_value}
use Rattle.amqp_types.specs.declared.tag.FieldTag.{FieldTag}
use Rattle.amqp_canonical.specs.Marks.{entries_in, last_of_ties, marked_entry}
use Rattle.amqp_canonical.specs.Writes.{array_content, canonical_of}
use Rattle.amqp_canonical.specs.Writes.{entry_bytes, items_of, table_content}
use Rattle.amqp_canonical.specs.declared.marks.EntryMark.{EntryMark}

-- of the value at the front, with its tag
abbrev pub canonical_value : ℕ → List ℕ → List ℕ
canonical_value depth_left bytes = canonical_of tagged_bytes (judge_value depth_left bytes)

-- of the value after a tag
abbrev pub canonical_after_tag : ℕ → FieldTag → List ℕ → List ℕ
canonical_after_tag depth_left tag bytes =
    canonical_of value_bytes (judge_behind (nested depth_left) tag bytes)

-- of the array at the front
abbrev pub canonical_array : ℕ → List ℕ → List ℕ
canonical_array depth_left bytes =
    canonical_of array_bytes (judge_array (judge_value depth_left) bytes)

-- of the table at the front
abbrev pub canonical_table : ℕ → List ℕ → List ℕ
canonical_table depth_left bytes =
    canonical_of table_bytes (judge_table (judge_value depth_left) bytes)

-- of the entry at the front, with its key
abbrev pub canonical_entry : ℕ → List ℕ → List ℕ
canonical_entry depth_left bytes =
    canonical_of entry_bytes (judge_entry (judge_value depth_left) bytes)

-- of all values that fill an array
abbrev pub canonical_values : ℕ → List ℕ → List ℕ
canonical_values depth_left content =
    array_content (items_of (filled (judge_value depth_left) 0 content))

-- of all entries that fill a table: in ascending key order, and of duplicate keys the last one
abbrev pub canonical_entries : ℕ → List ℕ → List ℕ
canonical_entries depth_left content = table_content (settled (entries_in depth_left content))

-- of the entries at marks, and of neighbours with one key the last one
abbrev pub marked_entries : ℕ → List ℕ → List EntryMark → List ℕ
marked_entries depth_left content marks =
    table_content (last_of_ties (map (marked_entry depth_left content) marks))
