-- An array and its list of values, a table and its list of entries, are one.
use Rattle.std.proofs.Common.{◌≡◌, List, [], ◌∷◌, refl, ap}
use Rattle.amqp_types.specs.Values.{FieldValue, FieldValues, FieldEntries, Entry, no_values, next_value, no_entries, next_entry}
use Rattle.amqp_types.specs.Values.{items, pairs, values_of, entries_of}

-- The values of an array that is made of a list are that list.
pub items-values_of : (vs : List FieldValue) → items (values_of vs) ≡ vs
items-values_of [] = refl
items-values_of (v ∷ vs) = ap (λ ws. v ∷ ws) (items-values_of vs)

-- The entries of a table that is made of a list are that list.
pub pairs-entries_of : (es : List Entry) → pairs (entries_of es) ≡ es
pairs-entries_of [] = refl
pairs-entries_of (e ∷ es) = ap (λ fs. e ∷ fs) (pairs-entries_of es)

-- An array made of its own values is the array.
pub values_of-items : (vs : FieldValues) → values_of (items vs) ≡ vs
values_of-items no_values = refl
values_of-items (next_value v vs) = ap (next_value v) (values_of-items vs)

-- A table made of its own entries is the table.
pub entries_of-pairs : (es : FieldEntries) → entries_of (pairs es) ≡ es
entries_of-pairs no_entries = refl
entries_of-pairs (next_entry k v es) = ap (next_entry k v) (entries_of-pairs es)
