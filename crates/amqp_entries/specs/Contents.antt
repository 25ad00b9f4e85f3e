-- What fills a table or an array in whose values tables and arrays may nest so deep.
use Rattle.std.specs.Prelude.{ℕ, List, Option, Result}
use Rattle.amqp_types.specs.Judging.{Fault}
use Rattle.amqp_types.specs.Settling.{settled}
use Rattle.amqp_types.specs.Strings.{with_length}
use Rattle.amqp_types.specs.Values.{FieldValue, Entry}
use Rattle.amqp_types.specs.ValueJudging.{filled, judge_entry, judge_value}
use Rattle.amqp_canonical.specs.Writes.{array_content, items_of, table_content}
use Rattle.amqp_entries.specs.Flaws.{content_flaw}
use Rattle.amqp_entries.specs.declared.errors.PutError.{PutError}

-- the entries that the content of a table is decoded to, one after another, or its fault
abbrev pub read_entries : ℕ → List ℕ → Result (List Entry) Fault
read_entries depth_left content = filled (judge_entry (judge_value depth_left)) 0 content

-- the values that the content of an array is decoded to, or its fault
abbrev pub read_values : ℕ → List ℕ → Result (List FieldValue) Fault
read_values depth_left content = filled (judge_value depth_left) 0 content

-- why the content of a table is not put
abbrev pub table_flaw : ℕ → List ℕ → Option PutError
table_flaw depth_left content = content_flaw content (read_entries depth_left content)

-- the table that it fills; of duplicate keys the last one wins
abbrev pub table_in : ℕ → List ℕ → List Entry
table_in depth_left content = settled (items_of (read_entries depth_left content))

-- why the content of an array is not put
abbrev pub array_flaw : ℕ → List ℕ → Option PutError
array_flaw depth_left content = content_flaw content (read_values depth_left content)

-- the values of the array that it fills
abbrev pub array_in : ℕ → List ℕ → List FieldValue
array_in depth_left content = items_of (read_values depth_left content)

-- the canonical bytes of the content of a table
abbrev pub canonical_entries : ℕ → List ℕ → List ℕ
canonical_entries depth_left content = table_content (table_in depth_left content)

-- the canonical bytes of the content of an array
abbrev pub canonical_values : ℕ → List ℕ → List ℕ
canonical_values depth_left content = array_content (array_in depth_left content)

-- the canonical bytes of a table with this content, its length first
abbrev pub counted_entries : ℕ → List ℕ → List ℕ
counted_entries depth_left content = with_length (canonical_entries depth_left content)

-- the canonical bytes of an array with this content, its length first
abbrev pub counted_values : ℕ → List ℕ → List ℕ
counted_values depth_left content = with_length (canonical_values depth_left content)
