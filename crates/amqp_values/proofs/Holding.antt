-- What programs hold: of the values left in an array, or the entries left in a table, it is held of all.
use Rattle.std.proofs.Common.{◌≡◌, ℕ, suc, ◌+◌, ◌<◌, ◌≤◌, List, [], ◌∷◌, length, get_or, drop, drop-cons, add-one, map, sym, ap, subst, ◌∙◌, arith}
use Rattle.std.specs.Str.{IsUtf8}
use Rattle.amqp_types.specs.Values.{FieldValue, Entry, table_value, values_of, entries_of, weight, entries_weight}
use Rattle.amqp_types.specs.Settling.{IsRising}
use Rattle.amqp_types.specs.ValueLaws.{IsHeld, AllHeld, AllEntriesHeld}
use Rattle.amqp_values.specs.Views.{value_of}
use Rattle.amqp_values.specs.declared.value.AMQPValue.{AMQPValue}
use Rattle.amqp_laws.proofs.Conversions.{pairs-entries_of}

-- an array's values from a place on
pub record LeftValues (items : List AMQPValue) (array : List FieldValue) (place : ℕ) : Type 0 where
  pub all : map value_of items ≡ array
  pub left : AllHeld (values_of (map value_of (drop place items))) → AllHeld (values_of array)

pub no_value : (items : List AMQPValue) (array : List FieldValue) → map value_of items ≡ array → LeftValues items array 0
no_value items array all = record { all = all; left = λ h. subst (λ vs. AllHeld (values_of vs)) all h }

pub one_value : {items : List AMQPValue} {array : List FieldValue} {place : ℕ} (value : AMQPValue) → LeftValues items array place
    → place < length items → value ≡ get_or items place value → IsHeld (value_of value) → LeftValues items array (place + 1)
one_value {items = items} {place = place} value h some is held =
    let here : drop place items ≡ value ∷ drop (place + 1) items =
    rw add-one (drop-cons items place value some ∙ ap (λ v. v ∷ drop (suc place) items) (sym is)) in
    record {
      all = h.all;
      left = λ rest. h.left (subst (λ vs. AllHeld (values_of (map value_of vs))) (sym here) (held, rest));
    }

-- a table's entries that are still to come
pub record LeftEntries (iter table : List Entry) : Type 0 where
  pub left : AllEntriesHeld (entries_of iter) → AllEntriesHeld (entries_of table)
  pub smaller : entries_weight (entries_of iter) ≤ entries_weight (entries_of table)

pub no_entry : (iter table : List Entry) → iter ≡ table → LeftEntries iter table
no_entry iter table is =
    record { left = λ h. subst (λ es. AllEntriesHeld (entries_of es)) is h; smaller = omega (arith, ap (λ es. entries_weight (entries_of es)) is) }

pub one_entry : {iter table : List Entry} (entry : Entry) (next : List Entry) → LeftEntries iter table
    → iter ≡ entry ∷ next → length entry.0 < 256 → IsUtf8 entry.0 → IsHeld entry.1 → LeftEntries next table
one_entry {iter = iter} entry next h is short utf8 held = record {
  left = λ rest. h.left (subst (λ es. AllEntriesHeld (entries_of es)) (sym is) (short, utf8, held, rest));
  smaller = omega (arith, h.smaller, ap (λ es. entries_weight (entries_of es)) is);
}

-- entries weigh more than the value of the first
pub first_lighter : (iter : List Entry) (entry : Entry) (next : List Entry) → iter ≡ entry ∷ next → weight entry.1 < entries_weight (entries_of iter)
first_lighter iter entry next is = omega (arith, ap (λ es. entries_weight (entries_of es)) is)

pub all_entries : {iter table : List Entry} → LeftEntries iter table → iter ≡ [] → AllEntriesHeld (entries_of table)
all_entries h none = h.left (subst (λ es. AllEntriesHeld (entries_of es)) (sym none) tt)

-- A table with its keys in ascending order, each of whose entries is held, is held.
pub whole_table : (table : List Entry) → IsRising table → AllEntriesHeld (entries_of table) → IsHeld (table_value (entries_of table))
whole_table table rising held = (subst (λ es. IsRising es) (sym (pairs-entries_of table)) rising, held)
