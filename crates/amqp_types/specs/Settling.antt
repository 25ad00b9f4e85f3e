-- The entries of a table: each key once, in ascending order. Of duplicate keys the last one wins.
use Rattle.std.specs.Prelude.{◌≡◌, ℕ, List, [], ◌∷◌, Option, Some, None, if◌then◌else◌}
use Rattle.std.specs.Ordering.{nat_cmp}
use Rattle.std.specs.Cmp.Lexicographic.{slice_cmp}
use Rattle.std.specs.BTreeMap.{insert_entry, is_at}
use Rattle.std.specs.List.Sorted.{IsStrictlySortedBy}
use Rattle.std.specs.Map.{keys_of, lookup}
use Rattle.amqp_types.specs.Values.{FieldValue, Entry}

-- keys are ordered by their bytes
abbrev pub IsRising : List Entry → Type 0
IsRising es = IsStrictlySortedBy (slice_cmp nat_cmp) (keys_of es)

-- the value that a table has at a key
abbrev pub value_at : List ℕ → List Entry → Option FieldValue
value_at key es = lookup (is_at (slice_cmp nat_cmp key)) es

-- the value that comes later, and where there is none the one before it
abbrev pub later : Option FieldValue → Option FieldValue → Option FieldValue
later (Some v) before = Some v
later None before = before

-- the value of the last entry with this key
abbrev pub last_at : List ℕ → List Entry → Option FieldValue
last_at key [] = None
last_at key (e ∷ es) =
    later (last_at key es) (if is_at (slice_cmp nat_cmp key) e.0 then Some e.1 else None)

-- the table has, in the order of their keys, the last value of each key among the entries
pub record IsSettled (table entries : List Entry) : Type 0 where
  pub rising : IsRising table
  pub last : (key : List ℕ) → value_at key table ≡ last_at key entries

-- the entries put into a table one after another
abbrev pub settled_on : List Entry → List Entry → List Entry
settled_on table [] = table
settled_on table (e ∷ es) = settled_on (insert_entry (slice_cmp nat_cmp) table e.0 e.1) es

-- the table that some entries make: put into an empty one, one after another
abbrev pub settled : List Entry → List Entry
settled entries = settled_on [] entries
