-- The values that tables and arrays hold (AMQP 0-9-1, section 4.2.5.5).
use Rattle.std.specs.Prelude.{ℕ, suc, ◌+◌, max, ℤ, List, [], ◌∷◌, Bool}

-- the signed numbers, of 1, 2, 4 and 8 bytes
pub data SignedKind : Type 0 where
  short_short_int : SignedKind
  short_int : SignedKind
  long_int : SignedKind
  long_long_int : SignedKind

-- the unsigned numbers of 1, 2 and 4 bytes, the bits of numbers with a fraction, and times
pub data UnsignedKind : Type 0 where
  short_short_uint : UnsignedKind
  short_uint : UnsignedKind
  long_uint : UnsignedKind
  float : UnsignedKind
  double : UnsignedKind
  timestamp : UnsignedKind

-- what is encoded as a length of four bytes and that many bytes
pub data BytesKind : Type 0 where
  long_string : BytesKind
  byte_array : BytesKind

mutual
  -- a truth value, a number, a scale with its number, bytes, an array, a table, or nothing
  pub data FieldValue : Type 0 where
    boolean_value : Bool → FieldValue
    signed_value : SignedKind → ℤ → FieldValue
    unsigned_value : UnsignedKind → ℕ → FieldValue
    decimal_value : ℕ → ℕ → FieldValue
    bytes_value : BytesKind → List ℕ → FieldValue
    array_value : FieldValues → FieldValue
    table_value : FieldEntries → FieldValue
    void_value : FieldValue

  -- the values of an array, in their order
  pub data FieldValues : Type 0 where
    no_values : FieldValues
    next_value : FieldValue → FieldValues → FieldValues

  -- the entries of a table: each key with its value, in their order
  pub data FieldEntries : Type 0 where
    no_entries : FieldEntries
    next_entry : List ℕ → FieldValue → FieldEntries → FieldEntries

-- a key and its value
abbrev pub Entry : Type 0
Entry = List ℕ × FieldValue

-- the values of an array as a list
abbrev pub items : FieldValues → List FieldValue
items no_values = []
items (next_value v vs) = v ∷ items vs

-- the entries of a table as a list
abbrev pub pairs : FieldEntries → List Entry
pairs no_entries = []
pairs (next_entry k v es) = (k, v) ∷ pairs es

-- an array of the values in a list
abbrev pub values_of : List FieldValue → FieldValues
values_of [] = no_values
values_of (v ∷ vs) = next_value v (values_of vs)

-- a table of the entries in a list, which it neither orders nor settles
abbrev pub entries_of : List Entry → FieldEntries
entries_of [] = no_entries
entries_of (e ∷ es) = next_entry e.0 e.1 (entries_of es)

-- how deep tables and arrays nest, the outermost counted as 1
abbrev mutual
  -- 0 of a value that is neither
  pub depth : FieldValue → ℕ
  depth (boolean_value b) = 0
  depth (signed_value kind n) = 0
  depth (unsigned_value kind n) = 0
  depth (decimal_value scale n) = 0
  depth (bytes_value kind bytes) = 0
  depth (array_value vs) = suc (values_depth vs)
  depth (table_value es) = suc (entries_depth es)
  depth void_value = 0

  -- that of the deepest of the values
  pub values_depth : FieldValues → ℕ
  values_depth no_values = 0
  values_depth (next_value v vs) = max (depth v) (values_depth vs)

  -- that of the deepest of the values in the entries
  pub entries_depth : FieldEntries → ℕ
  entries_depth no_entries = 0
  entries_depth (next_entry k v es) = max (depth v) (entries_depth es)

-- a number for each value that is more than that of each of its parts
abbrev mutual
  -- 1 and that of the parts; 0 of a value without parts
  pub weight : FieldValue → ℕ
  weight (boolean_value b) = 0
  weight (signed_value kind n) = 0
  weight (unsigned_value kind n) = 0
  weight (decimal_value scale n) = 0
  weight (bytes_value kind bytes) = 0
  weight (array_value vs) = suc (values_weight vs)
  weight (table_value es) = suc (entries_weight es)
  weight void_value = 0

  -- 1 for each of the values, and their weights
  pub values_weight : FieldValues → ℕ
  values_weight no_values = 0
  values_weight (next_value v vs) = suc (weight v + values_weight vs)

  -- 1 for each of the entries, and the weights of their values
  pub entries_weight : FieldEntries → ℕ
  entries_weight no_entries = 0
  entries_weight (next_entry k v es) = suc (weight v + entries_weight es)
