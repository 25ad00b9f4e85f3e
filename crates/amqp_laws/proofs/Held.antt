-- The canonical bytes of what programs hold are its strict encoding.
use Rattle.std.proofs.Common.{◌≡◌, ℕ, ℤ, zero, suc, ◌<◌, ◌≤◌, ◌^◌, nat_le, ◌||◌, FitsSigned, List, length, true, false, refl, sym, subst, arith}
use Rattle.std.proofs.Math.Facts.{Fits-of_z, Fits-lt-pow}
use Rattle.std.proofs.lemmas.Int.{to_z-of_z}
use Rattle.std.specs.Int.{w8, w16, w32, w64, cast_unsigned}
use Rattle.amqp_types.specs.Levels.{strict}
use Rattle.amqp_types.specs.Numbers.{NumberWidth, bytes1, bytes2, bytes4, bytes8, width_of, number_limit, number_bytes}
use Rattle.amqp_types.specs.Signed.{signed_bytes, SpellsSigned}
use Rattle.amqp_types.specs.Strings.{with_length}
use Rattle.amqp_types.specs.Values.{FieldValue, FieldValues, FieldEntries, boolean_value, signed_value, unsigned_value, decimal_value, bytes_value, array_value}
use Rattle.amqp_types.specs.Values.{table_value, void_value, no_values, next_value, no_entries, next_entry, items, pairs, depth, values_depth, entries_depth}
use Rattle.amqp_types.specs.ValueBytes.{signed_width, value_bytes, tagged_bytes, values_bytes, entries_bytes, is_long, any_value_long, any_entry_long}
use Rattle.amqp_types.specs.Settling.{IsRising}
use Rattle.amqp_types.specs.Tags.{tag_byte, tag_of}
use Rattle.amqp_types.specs.ValueSpelling.{SpellsEach, SpellsArray, SpellsTable, SpellsBehind, SpellsTagged, SpellsValue}
use Rattle.amqp_types.specs.ValueLaws.{IsHeld, AllHeld, AllEntriesHeld}
use Rattle.amqp_laws.proofs.Deciding.{or_left, or_right}
use Rattle.amqp_laws.proofs.Conversions.{values_of-items, entries_of-pairs}
use Rattle.amqp_laws.proofs.Entries.{EachEntry}
use Rattle.amqp_laws.proofs.Strictly.{IsKey, fits_four, array_spelled, table_spelled}

signed_fits : (width : NumberWidth) (n : ℤ) → FitsSigned (width_of width) n → cast_unsigned (width_of width) n < number_limit width
signed_fits bytes1 n h = Fits-lt-pow {w = w8} (Fits-of_z {w = w8} {z = n} h)
signed_fits bytes2 n h = Fits-lt-pow {w = w16} (Fits-of_z {w = w16} {z = n} h)
signed_fits bytes4 n h = Fits-lt-pow {w = w32} (Fits-of_z {w = w32} {z = n} h)
signed_fits bytes8 n h = Fits-lt-pow {w = w64} (Fits-of_z {w = w64} {z = n} h)

signed_held : (width : NumberWidth) (n : ℤ) → FitsSigned (width_of width) n → SpellsSigned width (signed_bytes width n) n
signed_held width n h = record {
  bits = cast_unsigned (width_of width) n;
  spelled = record { fits = signed_fits width n h; bytes_are = refl };
  means = sym (to_z-of_z (width_of width) n h);
}

module _ (deep : ℕ) (Strict : List ℕ → FieldValue → Type 0)
    (held : (v : FieldValue) → IsHeld v → is_long v ≡ false → depth v ≤ deep → Strict (tagged_bytes v) v) where
  values_held : (vs : FieldValues) → AllHeld vs → any_value_long vs ≡ false → values_depth vs ≤ deep → SpellsEach Strict (values_bytes vs) (items vs)
  values_held no_values h few low = refl
  values_held (next_value v vs) h few low = (
    tagged_bytes v,
    values_bytes vs,
    refl,
    held v h.0 (or_left (is_long v) (any_value_long vs) few) (omega (arith, low)),
    values_held vs h.1 (or_right (is_long v) (any_value_long vs) few) (omega (arith, low)),
  )

  entries_held : (es : FieldEntries) → AllEntriesHeld es → any_entry_long es ≡ false
      → entries_depth es ≤ deep → EachEntry IsKey (λ v. Strict (tagged_bytes v) v) (pairs es)
  unfolding EachEntry IsKey
  entries_held no_entries h few low = tt
  entries_held (next_entry k v es) h few low = (
    record { fits = h.0; utf8 = h.1; bytes_are = refl },
    held v h.2 (or_left (is_long v) (any_entry_long es) few) (omega (arith, low)),
    entries_held es h.3 (or_right (is_long v) (any_entry_long es) few) (omega (arith, low)),
  )

  -- The canonical bytes of an array that is neither long nor too deep encode it strictly.
  pub array_held : (vs : FieldValues) → AllHeld vs → is_long (array_value vs) ≡ false
      → values_depth vs ≤ deep → SpellsArray Strict (with_length (values_bytes vs)) (items vs)
  array_held vs h few low =
      let P : FieldValues → Type 0 = λ ws. (any_value_long ws || nat_le (2 ^ 32) (length (values_bytes ws))) ≡ false in
      let Q : FieldValues → Type 0 = λ ws. SpellsEach Strict (values_bytes ws) (items vs) in
      let R : FieldValues → Type 0 = λ ws. SpellsArray Strict (with_length (values_bytes ws)) (items vs) in
      let same = sym (values_of-items vs) in
      subst R (values_of-items vs)
      (array_spelled Strict (items vs) (subst P same few) (subst Q same (values_held vs h (or_left (any_value_long vs) _ few) low)))

  -- The canonical bytes of a table with ascending keys that is neither long nor too deep encode it strictly.
  pub table_held : (es : FieldEntries) → IsRising (pairs es) → AllEntriesHeld es → is_long (table_value es) ≡ false
      → entries_depth es ≤ deep → SpellsTable strict Strict (with_length (entries_bytes es)) (pairs es)
  table_held es rising h few low =
      let P : FieldEntries → Type 0 = λ fs. (any_entry_long fs || nat_le (2 ^ 32) (length (entries_bytes fs))) ≡ false in
      let R : FieldEntries → Type 0 = λ fs. SpellsTable strict Strict (with_length (entries_bytes fs)) (pairs es) in
      subst R (entries_of-pairs es)
      (table_spelled Strict (pairs es) (subst P (sym (entries_of-pairs es)) few) rising (entries_held es h (or_left (any_entry_long es) _ few) low))

module _ (room : ℕ) (Strict : List ℕ → FieldValue → Type 0) (arrays : (vs : FieldValues) → AllHeld vs
    → is_long (array_value vs) ≡ false → suc (values_depth vs) ≤ room → SpellsArray Strict (with_length (values_bytes vs)) (items vs))
    (tables : (es : FieldEntries) → IsRising (pairs es) → AllEntriesHeld es → is_long (table_value es) ≡ false
    → suc (entries_depth es) ≤ room → SpellsTable strict Strict (with_length (entries_bytes es)) (pairs es)) where
  behind_held : (v : FieldValue) → IsHeld v → is_long v ≡ false → depth v ≤ room → SpellsBehind strict room Strict (value_bytes v) v
  behind_held (boolean_value true) h few low = refl
  behind_held (boolean_value false) h few low = refl
  behind_held (signed_value kind n) h few low = signed_held (signed_width kind) n h
  behind_held (unsigned_value kind n) h few low = record { fits = h; bytes_are = refl }
  behind_held (decimal_value scale n) h few low = record {
    front = number_bytes bytes1 scale;
    behind = number_bytes bytes4 n;
    one = scale;
    two = n;
    bytes_are = refl;
    first_is = record { fits = h.0; bytes_are = refl };
    second_is = record { fits = h.1; bytes_are = refl };
    joined = refl;
  }
  behind_held (bytes_value kind s) h few low = record { fits = fits_four false (length s) few; bytes_are = refl }
  behind_held (array_value vs) h few low = (omega (arith, low), arrays vs h few low)
  behind_held (table_value es) h few low = (omega (arith, low), tables es h.0 h.1 few low)
  behind_held void_value h few low = refl

  tagged_held : (v : FieldValue) → IsHeld v → is_long v ≡ false → depth v ≤ room → SpellsTagged strict (SpellsBehind strict room Strict) (tagged_bytes v) v
  tagged_held v h few low = record { byte = tag_byte (tag_of v); behind = value_bytes v; bytes_are = refl; tag_is = refl; value_is = behind_held v h few low }

-- The canonical bytes of a value that is neither long nor too deep encode it strictly.
pub value_held : (room : ℕ) (v : FieldValue) → IsHeld v → is_long v ≡ false → depth v ≤ room → SpellsValue strict room (tagged_bytes v) v
unfolding SpellsValue
value_held zero = tagged_held 0 (λ _ _. ⊥) (λ vs h few low. absurd (omega (arith, low))) (λ es rising h few low. absurd (omega (arith, low)))
value_held (suc room) =
    tagged_held (suc room) (SpellsValue strict room) (λ vs h few low. array_held room (SpellsValue strict room) (value_held room) vs h few (omega (arith, low)))
    (λ es rising h few low. table_held room (SpellsValue strict room) (value_held room) es rising h few (omega (arith, low)))
