-- Tables and arrays that were decoded may stand in a table or an array.
use Rattle.std.proofs.Common.{◌≡◌, ℕ, suc, List, ◌∷◌, None, inl, refl, sym, ap, subst, arith}
use Rattle.amqp_types.specs.Levels.{plain}
use Rattle.amqp_types.specs.Judging.{IsBytes}
use Rattle.amqp_types.specs.Strings.{with_length}
use Rattle.amqp_types.specs.Settling.{settled}
use Rattle.amqp_types.specs.Values.{FieldValue, Entry, array_value, table_value, entries_of, values_of}
use Rattle.amqp_types.specs.ValueSpelling.{SpellsArray, SpellsTable, SpellsValue}
use Rattle.amqp_laws.proofs.Conversions.{items-values_of, pairs-entries_of}
use Rattle.amqp_laws.proofs.Strictly.{value_again}
use Rattle.amqp_canonical.specs.Writes.{items_of}
use Rattle.amqp_entries.specs.Contents.{array_flaw, array_in, read_entries, read_values, table_flaw, table_in}
use Rattle.amqp_entries.specs.Written.{IsWritten}
use Rattle.amqp_entries.proofs.Flawless.{flawless}
use Rattle.amqp_entries.proofs.Reading.{array_plain, table_plain}

-- a tag in front of a table, one level further in
tagged_table : (room : ℕ) (bytes : List ℕ) (es : List Entry) → SpellsTable plain (SpellsValue plain room) bytes es
    → SpellsValue plain (suc room) (70 ∷ bytes) (table_value (entries_of es))
unfolding SpellsValue
tagged_table room bytes es h =
    let P : List Entry → Type 0 = λ fs. SpellsTable plain (SpellsValue plain room) bytes fs in
    record { byte = 70; behind = bytes; bytes_are = refl; tag_is = inl refl; value_is = (omega arith, subst P (sym (pairs-entries_of es)) h) }

tagged_array : (room : ℕ) (bytes : List ℕ) (vs : List FieldValue) → SpellsArray (SpellsValue plain room) bytes vs
    → SpellsValue plain (suc room) (65 ∷ bytes) (array_value (values_of vs))
unfolding SpellsValue
tagged_array room bytes vs h =
    let P : List FieldValue → Type 0 = λ ws. SpellsArray (SpellsValue plain room) bytes ws in
    record { byte = 65; behind = bytes; bytes_are = refl; tag_is = inl refl; value_is = (omega arith, subst P (sym (items-values_of vs)) h) }

-- a table whose content has no flaw may stand in a table
pub table_written : (content : List ℕ) → IsBytes content → table_flaw 62 content ≡ None → IsWritten (table_value (entries_of (table_in 62 content)))
table_written content fits none =
    let h = flawless content (read_entries 62 content) none in
    let is : settled h.thing ≡ table_in 62 content = sym (ap (λ r. settled (items_of r)) h.is) in
    let P : List Entry → Type 0 = λ es. IsWritten (table_value (entries_of es)) in
    subst P is (record {
      spelled = value_again 63 (70 ∷ with_length content) (table_value (entries_of (settled h.thing)))
          (tagged_table 62 (with_length content) (settled h.thing) (table_plain 62 content h.thing fits h.few h.is));
    })

-- an array whose content has no flaw may stand in a table
pub array_written : (content : List ℕ) → IsBytes content → array_flaw 62 content ≡ None → IsWritten (array_value (values_of (array_in 62 content)))
array_written content fits none =
    let h = flawless content (read_values 62 content) none in
    let is : h.thing ≡ array_in 62 content = sym (ap items_of h.is) in
    let P : List FieldValue → Type 0 = λ vs. IsWritten (array_value (values_of vs)) in
    subst P is (record {
      spelled = value_again 63 (65 ∷ with_length content) (array_value (values_of h.thing))
          (tagged_array 62 (with_length content) h.thing (array_plain 62 content h.thing fits h.few h.is));
    })
