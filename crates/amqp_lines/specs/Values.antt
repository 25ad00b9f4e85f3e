-- The text of values, arrays and tables: a tag letter, and after a colon what the value is.
use Rattle.std.specs.Prelude.{List, [], ◌∷◌, ◌++◌, ℕ, Bool, true, false, codes}
use Rattle.std.specs.Fmt.{decimal, signed_decimal}
use Rattle.amqp_types.specs.Values.{FieldValue, FieldValues, FieldEntries, Entry, boolean_value}
use Rattle.amqp_types.specs.Values.{signed_value, unsigned_value, decimal_value, bytes_value}
use Rattle.amqp_types.specs.Values.{array_value, table_value, void_value, long_string, byte_array}
use Rattle.amqp_types.specs.Values.{no_values, next_value, no_entries, next_entry, entries_of}
use Rattle.amqp_types.specs.Tags.{tag_byte, tag_of}
use Rattle.amqp_types.specs.declared.tag.FieldTag.{FieldTag}
use Rattle.amqp_types.specs.declared.tag.FieldTag.TheVariants as tag
use Rattle.amqp_lines.specs.Words.{hex, quoted, parted}

-- The tag letter, and a colon where something follows.
abbrev pub tag_text : FieldTag → List ℕ
tag_text tag.Void = tag_byte tag.Void ∷ []
tag_text t = tag_byte t ∷ codes ":"

-- `1` for true, `0` for false
abbrev pub truth_text : Bool → List ℕ
truth_text true = codes "1"
truth_text false = codes "0"

abbrev mutual
  -- what follows the tag letter; the bits of floats, doubles and times are unsigned numbers
  pub content_text : FieldValue → List ℕ
  content_text (boolean_value b) = truth_text b
  content_text (signed_value kind n) = signed_decimal n
  content_text (unsigned_value kind n) = decimal n
  content_text (decimal_value scale n) = decimal scale ++ (codes "/" ++ decimal n)
  content_text (bytes_value long_string bytes) = quoted bytes
  content_text (bytes_value byte_array bytes) = hex bytes
  content_text (array_value vs) = codes "[" ++ (parted (values_texts vs) ++ codes "]")
  content_text (table_value es) = codes "{" ++ (parted (entries_texts es) ++ codes "}")
  content_text void_value = []

  -- the text of each value
  pub values_texts : FieldValues → List (List ℕ)
  values_texts no_values = []
  values_texts (next_value v vs) = (tag_text (tag_of v) ++ content_text v) ∷ values_texts vs

  -- the text of each entry: its key, `=` and its value
  pub entries_texts : FieldEntries → List (List ℕ)
  entries_texts no_entries = []
  entries_texts (next_entry k v es) =
      (quoted k ++ (codes "=" ++ (tag_text (tag_of v) ++ content_text v))) ∷ entries_texts es

-- a value with its tag letter
unfoldable pub value_text : FieldValue → List ℕ
value_text v = tag_text (tag_of v) ++ content_text v

-- the entries in the order in which they stand, between braces
unfoldable pub table_text : List Entry → List ℕ
table_text es = codes "{" ++ (parted (entries_texts (entries_of es)) ++ codes "}")
