-- What is encoded has canonical bytes that are no longer, is not long, and nests no deeper than its room.
use Rattle.std.proofs.Common.{◌≡◌, ℕ, zero, suc, ◌+◌, ◌<◌, ◌≤◌, ◌^◌, nat_le, ◌||◌, List, [], ◌∷◌, length, Bool, true, false, refl, ap, ◌∙◌, subst, arith}
use Rattle.std.proofs.lemmas.Bool.Decides.{nat_tests}
use Rattle.std.proofs.lemmas.List.{length-append}
use Rattle.amqp_types.specs.Levels.{plain}
use Rattle.std.specs.Int.{cast_unsigned}
use Rattle.amqp_types.specs.Numbers.{width_of}
use Rattle.amqp_types.specs.Strings.{SpellsLongString}
use Rattle.amqp_types.specs.Values.{FieldValue, FieldValues, FieldEntries, Entry, boolean_value, signed_value, unsigned_value, decimal_value, bytes_value}
use Rattle.amqp_types.specs.Values.{array_value, table_value, void_value, items, pairs, values_of, entries_of, depth, values_depth, entries_depth}
use Rattle.amqp_types.specs.ValueBytes.{signed_width, value_bytes, tagged_bytes, values_bytes, entries_bytes, is_long, any_value_long, any_entry_long}
use Rattle.amqp_types.specs.Settling.{settled}
use Rattle.amqp_types.specs.ValueSpelling.{SpellsEach, SpellsEntry, SpellsArray, SpellsTable, SpellsBehind, SpellsTagged, SpellsValue}
use Rattle.amqp_types.proofs.Booleans.{boolean_laws}
use Rattle.amqp_types.proofs.Numbers.{number_bytes-length}
use Rattle.amqp_laws.proofs.Conversions.{values_of-items, entries_of-pairs}
use Rattle.amqp_laws.proofs.Entries.{EachEntry, each-settled_on, each-nil, entry_length, total_length, length-entries_bytes, settled_length}
use Rattle.amqp_laws.proofs.Settling.{settled_is}

-- a value whose canonical bytes after its tag are at most n, which is not long, and no deeper
pub record Fits (n deep : ℕ) (v : FieldValue) : Type 0 where
  pub shorter : length (value_bytes v) ≤ n
  pub not_long : is_long v ≡ false
  pub not_deep : depth v ≤ deep

-- A value whose canonical bytes with its tag are at most n, which is not long, and nests no deeper than the given number.
pub record IsBounded (n deep : ℕ) (v : FieldValue) : Type 0 where
  pub shorter : length (tagged_bytes v) ≤ n
  pub not_long : is_long v ≡ false
  pub not_deep : depth v ≤ deep

abbrev pub BoundedBy : ℕ → (List ℕ → FieldValue → Type 0) → Type 0
BoundedBy deep Spells = (bytes : List ℕ) (v : FieldValue) → Spells bytes v → IsBounded (length bytes) deep v

-- Where neither of two tests holds, their disjunction does not.
pub neither : (a b : Bool) → a ≡ false → b ≡ false → (a || b) ≡ false
neither true b p q = p
neither false b p q = q

-- A number below 2^32 does not reach the limit of a length.
pub below_limit : (n : ℕ) → n < 2 ^ 32 → nat_le (2 ^ 32) n ≡ false
below_limit n h = grind (arith, nat_tests)

-- ---- what stands inside

not_long : (K : List ℕ → Type 0) (es : List Entry) → EachEntry K (λ v. is_long v ≡ false) es → any_entry_long (entries_of es) ≡ false
unfolding EachEntry
not_long K [] h = refl
not_long K (e ∷ es) h = neither (is_long e.1) (any_entry_long (entries_of es)) h.1 (not_long K es h.2)

not_deep : (K : List ℕ → Type 0) (deep : ℕ) (es : List Entry) → EachEntry K (λ v. depth v ≤ deep) es → entries_depth (entries_of es) ≤ deep
unfolding EachEntry
not_deep K deep [] h = omega arith
not_deep K deep (e ∷ es) h = omega (arith, h.1, not_deep K deep es h.2)

Any : List ℕ → Type 0
Any k = Unit {0}

module _ (deep : ℕ) (Spells : List ℕ → FieldValue → Type 0) (bounded : BoundedBy deep Spells) where
  values_bounded : (bytes : List ℕ) (vs : List FieldValue) → SpellsEach Spells bytes vs
      → (length (values_bytes (values_of vs)) ≤ length bytes) × (any_value_long (values_of vs) ≡ false) × (values_depth (values_of vs) ≤ deep)
  values_bounded bytes [] h = (omega arith, refl, omega arith)
  values_bounded bytes (v ∷ vs) h =
      let one = bounded h.0 v h.3 in
      let more = values_bounded h.1 vs h.4 in
      let whole : length bytes ≡ length h.0 + length h.1 = ap length h.2 ∙ length-append h.0 h.1 in
      let sum : length (values_bytes (values_of (v ∷ vs))) ≡ length (tagged_bytes v) + length (values_bytes (values_of vs)) =
      length-append (tagged_bytes v) (values_bytes (values_of vs)) in (
        omega (arith, one.shorter, more.0, whole, sum),
        neither (is_long v) (any_value_long (values_of vs)) one.not_long more.1,
        omega (arith, one.not_deep, more.2),
      )

  entries_bounded : (bytes : List ℕ) (es : List Entry) → SpellsEach (SpellsEntry Spells) bytes es
      → (total_length es ≤ length bytes) × EachEntry Any (λ v. is_long v ≡ false) es × EachEntry Any (λ v. depth v ≤ deep) es
  unfolding EachEntry total_length entry_length Any
  entries_bounded bytes [] h = (omega arith, tt, tt)
  entries_bounded bytes (e ∷ es) h =
      let entry = h.3 in
      let is : e ≡ (entry.one, entry.two) = entry.joined in
      let one = bounded entry.behind entry.two entry.second_is in
      let more = entries_bounded h.1 es h.4 in
      let whole : length bytes ≡ length h.0 + length h.1 = ap length h.2 ∙ length-append h.0 h.1 in
      let parts : length h.0 ≡ length entry.front + length entry.behind = ap length entry.bytes_are ∙ length-append entry.front entry.behind in
      let key : length entry.front ≡ suc (length entry.one) = ap length entry.first_is.bytes_are in
      let same_key : length e.0 ≡ length entry.one = ap (λ (x : Entry). length x.0) is in
      let same_value : length (tagged_bytes e.1) ≡ length (tagged_bytes entry.two) = ap (λ (x : Entry). length (tagged_bytes x.1)) is in (
        omega (arith, one.shorter, more.0, whole, parts, key, same_key, same_value),
        (tt, ap (λ (x : Entry). is_long x.1) is ∙ one.not_long, more.1),
        (tt, omega (arith, one.not_deep, ap (λ (x : Entry). depth x.1) is), more.2),
      )

-- a length in four bytes in front of what is at most so long
framed : (bytes inner canonical : List ℕ) → SpellsLongString bytes inner → length canonical ≤ length inner
    → (4 + length canonical ≤ length bytes) × (nat_le (2 ^ 32) (length canonical) ≡ false)
framed bytes inner canonical h le =
    let all : length bytes ≡ 4 + length inner = ap length h.bytes_are ∙ omega arith in
    (omega (arith, all), below_limit (length canonical) (omega (arith, h.fits)))

module _ (deep : ℕ) (Spells : List ℕ → FieldValue → Type 0) (bounded : BoundedBy deep Spells) where
  -- An array whose values are bounded has canonical bytes that are no longer, is not long, and nests one level deeper at most.
  pub array_bounded : (bytes : List ℕ) (vs : List FieldValue) → SpellsArray Spells bytes vs → Fits (length bytes) (suc deep) (array_value (values_of vs))
  array_bounded bytes vs h =
      let all = values_bounded deep Spells bounded h.inner vs h.each in
      let f = framed bytes h.inner (values_bytes (values_of vs)) h.framed all.0 in
      record { shorter = omega (arith, f.0); not_long = neither (any_value_long (values_of vs)) _ all.1 f.1; not_deep = omega (arith, all.2) }

  -- A table whose values are bounded has canonical bytes that are no longer, is not long, and nests one level deeper at most.
  pub table_bounded : (bytes : List ℕ) (es : List Entry) → SpellsTable plain Spells bytes es → Fits (length bytes) (suc deep) (table_value (entries_of es))
  unfolding total_length
  table_bounded bytes es h =
      let read = entries_bounded deep Spells bounded h.inner h.entries h.each in
      let is : settled h.entries ≡ es = settled_is h.entries es h.counts in
      let less : length (entries_bytes (entries_of es)) ≤ length h.inner =
      omega (arith, settled_length [] h.entries, length-entries_bytes es, ap total_length is, read.0) in
      let f = framed bytes h.inner (entries_bytes (entries_of es)) h.framed less in
      let P : List Entry → Type 0 = λ fs. EachEntry Any (λ v. is_long v ≡ false) fs in
      let Q : List Entry → Type 0 = λ fs. EachEntry Any (λ v. depth v ≤ deep) fs in
      let long = subst P is (each-settled_on Any (λ v. is_long v ≡ false) [] h.entries (each-nil Any (λ v. is_long v ≡ false)) read.1) in
      let low = subst Q is (each-settled_on Any (λ v. depth v ≤ deep) [] h.entries (each-nil Any (λ v. depth v ≤ deep)) read.2) in
      record {
        shorter = omega (arith, f.0);
        not_long = neither (any_entry_long (entries_of es)) _ (not_long Any es long) f.1;
        not_deep = omega (arith, not_deep Any deep es low);
      }

-- ---- values

module _ (room deep : ℕ) (Spells : List ℕ → FieldValue → Type 0)
    (arrays : (bytes : List ℕ) (vs : List FieldValue) → 0 < room → SpellsArray Spells bytes vs → Fits (length bytes) room (array_value (values_of vs)))
    (tables : (bytes : List ℕ) (es : List Entry) → 0 < room → SpellsTable plain Spells bytes es → Fits (length bytes) room (table_value (entries_of es))) where
  behind_bounded : (bytes : List ℕ) (v : FieldValue) → SpellsBehind plain room Spells bytes v → Fits (length bytes) room v
  behind_bounded bytes (boolean_value b) h = record { shorter = boolean_laws.shortest bytes b h; not_long = refl; not_deep = omega arith }
  behind_bounded bytes (signed_value kind n) h = record {
    shorter = omega (
      arith,
      ap length h.spelled.bytes_are,
      number_bytes-length (signed_width kind) h.bits,
      number_bytes-length (signed_width kind) (cast_unsigned (width_of (signed_width kind)) n),
    );
    not_long = refl;
    not_deep = omega arith;
  }
  behind_bounded bytes (unsigned_value kind n) h = record { shorter = omega (arith, ap length h.bytes_are); not_long = refl; not_deep = omega arith }
  behind_bounded bytes (decimal_value scale n) h = record {
    shorter = omega (arith, ap length h.bytes_are, length-append h.front h.behind, ap length h.first_is.bytes_are, ap length h.second_is.bytes_are);
    not_long = refl;
    not_deep = omega arith;
  }
  behind_bounded bytes (bytes_value kind s) h =
      let f = framed bytes s s h (omega arith) in
      record { shorter = omega (arith, f.0); not_long = f.1; not_deep = omega arith }
  behind_bounded bytes (array_value vs) h =
      let P : FieldValues → Type 0 = λ ws. Fits (length bytes) room (array_value ws) in
      subst P (values_of-items vs) (arrays bytes (items vs) h.0 h.1)
  behind_bounded bytes (table_value es) h =
      let P : FieldEntries → Type 0 = λ fs. Fits (length bytes) room (table_value fs) in
      subst P (entries_of-pairs es) (tables bytes (pairs es) h.0 h.1)
  behind_bounded bytes void_value h = record { shorter = omega arith; not_long = refl; not_deep = omega arith }

tagged_bounded : (deep : ℕ) (Spells : List ℕ → FieldValue → Type 0)
    → ((bytes : List ℕ) (v : FieldValue) → Spells bytes v → Fits (length bytes) deep v) → BoundedBy deep (SpellsTagged plain Spells)
tagged_bounded deep Spells fits bytes v h =
    let one = fits h.behind v h.value_is in
    record { shorter = omega (arith, one.shorter, ap length h.bytes_are); not_long = one.not_long; not_deep = one.not_deep }

-- A value that is encoded has canonical bytes that are no longer, is not long, and nests no deeper than its room.
pub value_bounded : (room : ℕ) → BoundedBy room (SpellsValue plain room)
unfolding SpellsValue
value_bounded zero =
    tagged_bounded 0 (SpellsBehind plain 0 (λ _ _. ⊥))
    (behind_bounded 0 0 (λ _ _. ⊥) (λ bytes vs up h. absurd (omega (arith, up))) (λ bytes es up h. absurd (omega (arith, up))))
value_bounded (suc room) =
    tagged_bounded (suc room) (SpellsBehind plain (suc room) (SpellsValue plain room)) (behind_bounded (suc room) room (SpellsValue plain room)
    (λ bytes vs up h. array_bounded room (SpellsValue plain room) (value_bounded room) bytes vs h)
    (λ bytes es up h. table_bounded room (SpellsValue plain room) (value_bounded room) bytes es h))
