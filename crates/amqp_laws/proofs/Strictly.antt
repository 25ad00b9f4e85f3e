-- The canonical bytes of what is encoded are its one strict encoding, and what is strict is tidy, and what is tidy is plain.
use Rattle.std.proofs.Common.{◌≡◌, ℕ, zero, suc, ◌<◌, ◌^◌, nat_le, ◌||◌, List, [], ◌∷◌, ◌++◌, length, Bool, true, false, inl, refl, sym, ap, ap₂}
use Rattle.std.proofs.Common.{◌∙◌, subst, append_assoc, arith}
use Rattle.std.proofs.lemmas.Bool.Decides.{nat_tests}
use Rattle.std.proofs.lemmas.List.{append-nil}
use Rattle.amqp_types.specs.Levels.{plain, tidy, strict}
use Rattle.amqp_types.specs.Numbers.{bytes1, bytes4, number_bytes}
use Rattle.amqp_types.specs.Strings.{with_length, short_string_bytes, SpellsShortString}
use Rattle.amqp_types.specs.Values.{FieldValue, FieldValues, FieldEntries, Entry, boolean_value, signed_value, unsigned_value, decimal_value, bytes_value}
use Rattle.amqp_types.specs.Values.{array_value, table_value, void_value, items, pairs, values_of, entries_of}
use Rattle.amqp_types.specs.ValueBytes.{signed_width, value_bytes, tagged_bytes, values_bytes, entries_bytes, is_long, any_value_long, any_entry_long}
use Rattle.amqp_types.specs.Settling.{IsRising, IsSettled, settled_on}
use Rattle.amqp_types.specs.Tags.{tag_byte, tag_of}
use Rattle.amqp_types.specs.ValueSpelling.{SpellsEach, SpellsEntry, SpellsArray, SpellsTable, SpellsBehind, SpellsTagged, SpellsValue}
use Rattle.amqp_types.proofs.Booleans.{boolean_laws}
use Rattle.amqp_types.proofs.FormLaws.{signed_only}
use Rattle.amqp_laws.proofs.Settling.{insert_last, settles, settled_is}
use Rattle.amqp_laws.proofs.Deciding.{or_right}
use Rattle.amqp_laws.proofs.Conversions.{values_of-items, entries_of-pairs}
use Rattle.amqp_laws.proofs.Entries.{EachEntry, each-settled_on, each-nil}
use Rattle.amqp_laws.proofs.Bounded.{value_bounded}

-- ---- one strict encoding at most

abbrev pub OnlyCanonical : (List ℕ → FieldValue → Type 0) → Type 0
OnlyCanonical Spells = (bytes : List ℕ) (v : FieldValue) → Spells bytes v → bytes ≡ tagged_bytes v

module _ (Spells : List ℕ → FieldValue → Type 0) (only : OnlyCanonical Spells) where
  only_values : (bytes : List ℕ) (vs : List FieldValue) → SpellsEach Spells bytes vs → bytes ≡ values_bytes (values_of vs)
  only_values bytes [] h = h
  only_values bytes (v ∷ vs) h = h.2 ∙ ap₂ (λ a b. a ++ b) (only h.0 v h.3) (only_values h.1 vs h.4)

  only_entry : (bytes : List ℕ) (e : Entry) → SpellsEntry Spells bytes e → bytes ≡ short_string_bytes e.0 ++ tagged_bytes e.1
  only_entry bytes e h =
      h.bytes_are ∙ ap₂ (λ a b. a ++ b) h.first_is.bytes_are (only h.behind h.two h.second_is)
      ∙ ap (λ (x : Entry). short_string_bytes x.0 ++ tagged_bytes x.1) (sym h.joined)

  only_entries : (bytes : List ℕ) (es : List Entry) → SpellsEach (SpellsEntry Spells) bytes es → bytes ≡ entries_bytes (entries_of es)
  only_entries bytes [] h = h
  only_entries bytes (e ∷ es) h = h.2 ∙ ap₂ (λ a b. a ++ b) (only_entry h.0 e h.3) (only_entries h.1 es h.4)

  -- Where values are encoded by their canonical bytes alone, so is an array of them.
  pub only_array : (bytes : List ℕ) (vs : List FieldValue) → SpellsArray Spells bytes vs → bytes ≡ with_length (values_bytes (values_of vs))
  only_array bytes vs h = h.framed.bytes_are ∙ ap with_length (only_values h.inner vs h.each)

  -- Where values are encoded by their canonical bytes alone, so is a table of them at level strict.
  pub only_table : (bytes : List ℕ) (es : List Entry) → SpellsTable strict Spells bytes es → bytes ≡ with_length (entries_bytes (entries_of es))
  only_table bytes es h = h.framed.bytes_are ∙ ap with_length (only_entries h.inner h.entries h.each ∙ ap (λ fs. entries_bytes (entries_of fs)) h.once)

  only_behind : (room : ℕ) (bytes : List ℕ) (v : FieldValue) → SpellsBehind strict room Spells bytes v → bytes ≡ value_bytes v
  only_behind room bytes (boolean_value true) h = h
  only_behind room bytes (boolean_value false) h = h
  only_behind room bytes (signed_value kind n) h = signed_only (signed_width kind) bytes n h
  only_behind room bytes (unsigned_value kind n) h = h.bytes_are
  only_behind room bytes (decimal_value scale n) h =
      h.bytes_are ∙ ap₂ (λ a b. a ++ b) h.first_is.bytes_are h.second_is.bytes_are
      ∙ ap (λ (d : ℕ × ℕ). number_bytes bytes1 d.0 ++ number_bytes bytes4 d.1) (sym h.joined)
  only_behind room bytes (bytes_value kind s) h = h.bytes_are
  only_behind room bytes (array_value vs) h = only_array bytes (items vs) h.1 ∙ ap (λ ws. with_length (values_bytes ws)) (values_of-items vs)
  only_behind room bytes (table_value es) h = only_table bytes (pairs es) h.1 ∙ ap (λ fs. with_length (entries_bytes fs)) (entries_of-pairs es)
  only_behind room bytes void_value h = h

only_tagged : (Spells : List ℕ → FieldValue → Type 0)
    → ((bytes : List ℕ) (v : FieldValue) → Spells bytes v → bytes ≡ value_bytes v) → OnlyCanonical (SpellsTagged strict Spells)
only_tagged Spells only bytes v h = h.bytes_are ∙ ap₂ (λ b bs. b ∷ bs) h.tag_is (only h.behind v h.value_is)

-- The canonical bytes of a value are its one strict encoding.
pub value_only : (room : ℕ) → OnlyCanonical (SpellsValue strict room)
unfolding SpellsValue
value_only zero = only_tagged (SpellsBehind strict 0 (λ _ _. ⊥)) (only_behind (λ _ _. ⊥) (λ bytes v h. absurd h) 0)
value_only (suc room) =
    only_tagged (SpellsBehind strict (suc room) (SpellsValue strict room)) (only_behind (SpellsValue strict room) (value_only room) (suc room))

-- ---- what is strict is tidy, and what is tidy is plain

-- what one relation encodes, another encodes too, by the same bytes
abbrev pub Into : {A : Type 0} → (List ℕ → A → Type 0) → (List ℕ → A → Type 0) → Type 0
Into {A} S T = (bytes : List ℕ) (x : A) → S bytes x → T bytes x

-- Things that one relation encodes one after another are so encoded by each relation that contains it.
pub each_into : {A : Type 0} (S T : List ℕ → A → Type 0) → Into S T → (bytes : List ℕ) (xs : List A) → SpellsEach S bytes xs → SpellsEach T bytes xs
each_into S T into bytes [] h = h
each_into S T into bytes (x ∷ xs) h = (h.0, h.1, h.2, into h.0 x h.3, each_into S T into h.1 xs h.4)

-- An entry whose value one relation encodes is encoded with each relation that contains it.
pub entry_into : (S T : List ℕ → FieldValue → Type 0) → Into S T → Into (SpellsEntry S) (SpellsEntry T)
entry_into S T into bytes e h = record {
  front = h.front;
  behind = h.behind;
  one = h.one;
  two = h.two;
  bytes_are = h.bytes_are;
  first_is = h.first_is;
  second_is = into h.behind h.two h.second_is;
  joined = h.joined;
}

-- An array whose values one relation encodes is encoded with each relation that contains it.
pub array_into : (S T : List ℕ → FieldValue → Type 0) → Into S T → Into (SpellsArray S) (SpellsArray T)
array_into S T into bytes vs h = record { inner = h.inner; framed = h.framed; each = each_into S T into h.inner vs h.each }

-- A table that is encoded strictly is encoded at level tidy, where its values are.
pub table_strict_is_tidy : (S T : List ℕ → FieldValue → Type 0) → Into S T → Into (SpellsTable strict S) (SpellsTable tidy T)
table_strict_is_tidy S T into bytes es h = record {
  inner = h.inner;
  entries = h.entries;
  framed = h.framed;
  each = each_into (SpellsEntry S) (SpellsEntry T) (entry_into S T into) h.inner h.entries h.each;
  counts = h.counts;
  once = tt;
}

-- A table that is encoded at level tidy is encoded at level plain, where its values are.
pub table_tidy_is_plain : (S T : List ℕ → FieldValue → Type 0) → Into S T → Into (SpellsTable tidy S) (SpellsTable plain T)
table_tidy_is_plain S T into bytes es h = record {
  inner = h.inner;
  entries = h.entries;
  framed = h.framed;
  each = each_into (SpellsEntry S) (SpellsEntry T) (entry_into S T into) h.inner h.entries h.each;
  counts = h.counts;
  once = tt;
}

module _ (room : ℕ) (S T : List ℕ → FieldValue → Type 0) (into : Into S T) where
  behind_strict_is_tidy : Into (SpellsBehind strict room S) (SpellsBehind tidy room T)
  behind_strict_is_tidy bytes (boolean_value b) h = boolean_laws.strict_is_tidy bytes b h
  behind_strict_is_tidy bytes (signed_value kind n) h = h
  behind_strict_is_tidy bytes (unsigned_value kind n) h = h
  behind_strict_is_tidy bytes (decimal_value scale n) h = h
  behind_strict_is_tidy bytes (bytes_value kind s) h = h
  behind_strict_is_tidy bytes (array_value vs) h = (h.0, array_into S T into bytes (items vs) h.1)
  behind_strict_is_tidy bytes (table_value es) h = (h.0, table_strict_is_tidy S T into bytes (pairs es) h.1)
  behind_strict_is_tidy bytes void_value h = h

  behind_tidy_is_plain : Into (SpellsBehind tidy room S) (SpellsBehind plain room T)
  behind_tidy_is_plain bytes (boolean_value b) h = boolean_laws.tidy_is_plain bytes b h
  behind_tidy_is_plain bytes (signed_value kind n) h = h
  behind_tidy_is_plain bytes (unsigned_value kind n) h = h
  behind_tidy_is_plain bytes (decimal_value scale n) h = h
  behind_tidy_is_plain bytes (bytes_value kind s) h = h
  behind_tidy_is_plain bytes (array_value vs) h = (h.0, array_into S T into bytes (items vs) h.1)
  behind_tidy_is_plain bytes (table_value es) h = (h.0, table_tidy_is_plain S T into bytes (pairs es) h.1)
  behind_tidy_is_plain bytes void_value h = h

tagged_strict_is_tidy : (S T : List ℕ → FieldValue → Type 0) → Into S T → Into (SpellsTagged strict S) (SpellsTagged tidy T)
tagged_strict_is_tidy S T into bytes v h =
    record { byte = h.byte; behind = h.behind; bytes_are = h.bytes_are; tag_is = inl h.tag_is; value_is = into h.behind v h.value_is }

tagged_tidy_is_plain : (S T : List ℕ → FieldValue → Type 0) → Into S T → Into (SpellsTagged tidy S) (SpellsTagged plain T)
tagged_tidy_is_plain S T into bytes v h =
    record { byte = h.byte; behind = h.behind; bytes_are = h.bytes_are; tag_is = h.tag_is; value_is = into h.behind v h.value_is }

-- A value that is encoded strictly is encoded at level tidy.
pub value_strict_is_tidy : (room : ℕ) → Into (SpellsValue strict room) (SpellsValue tidy room)
unfolding SpellsValue
value_strict_is_tidy zero = tagged_strict_is_tidy _ _ (behind_strict_is_tidy 0 (λ _ _. ⊥) (λ _ _. ⊥) (λ bytes v h. h))
value_strict_is_tidy (suc room) =
    tagged_strict_is_tidy _ _ (behind_strict_is_tidy (suc room) (SpellsValue strict room) (SpellsValue tidy room) (value_strict_is_tidy room))

-- A value that is encoded at level tidy is encoded at level plain.
pub value_tidy_is_plain : (room : ℕ) → Into (SpellsValue tidy room) (SpellsValue plain room)
unfolding SpellsValue
value_tidy_is_plain zero = tagged_tidy_is_plain _ _ (behind_tidy_is_plain 0 (λ _ _. ⊥) (λ _ _. ⊥) (λ bytes v h. h))
value_tidy_is_plain (suc room) =
    tagged_tidy_is_plain _ _ (behind_tidy_is_plain (suc room) (SpellsValue tidy room) (SpellsValue plain room) (value_tidy_is_plain room))

-- ---- what is plain has a strict encoding, its canonical bytes

-- Entries that follow a table in ascending key order are put into it by appending them.
pub in_order : (found es : List Entry) → IsRising (found ++ es) → settled_on found es ≡ found ++ es
in_order found [] s = sym (append-nil found)
in_order found (e ∷ es) s =
    let P : List Entry → Type 0 = λ xs. IsRising xs in
    let next : found ++ e ∷ es ≡ (found ++ e ∷ []) ++ es = sym (append_assoc found (e ∷ []) es) in
    ap (λ xs. settled_on xs es) (insert_last found e es s) ∙ in_order (found ++ e ∷ []) es (subst P next s) ∙ sym next

-- a table in ascending key order is settled from its own entries
own_settled : (es : List Entry) → IsRising es → IsSettled es es
own_settled es s = let P : List Entry → Type 0 = λ xs. IsSettled xs es in subst P (in_order [] es s) (settles es)

-- a key that is encoded by its canonical bytes as a short string
unfoldable pub IsKey : List ℕ → Type 0
IsKey k = SpellsShortString (short_string_bytes k) k

-- A length that is not refused as too long fits in four bytes.
pub fits_four : (a : Bool) (n : ℕ) → (a || nat_le (2 ^ 32) n) ≡ false → n < 2 ^ 32
fits_four a n h = let e = or_right a (nat_le (2 ^ 32) n) h in grind (arith, nat_tests)

-- the strict encoding of an array and of a table whose parts have one
module _ (Strict : List ℕ → FieldValue → Type 0) where
  entries_spelled : (es : List Entry) → EachEntry IsKey (λ v. Strict (tagged_bytes v) v) es → SpellsEach (SpellsEntry Strict) (entries_bytes (entries_of es)) es
  unfolding EachEntry IsKey
  entries_spelled [] h = refl
  entries_spelled (e ∷ es) h = (
    short_string_bytes e.0 ++ tagged_bytes e.1,
    entries_bytes (entries_of es),
    refl,
    record {
      front = short_string_bytes e.0;
      behind = tagged_bytes e.1;
      one = e.0;
      two = e.1;
      bytes_are = refl;
      first_is = h.0;
      second_is = h.1;
      joined = refl;
    },
    entries_spelled es h.2,
  )

  -- The canonical bytes of an array that is not long encode it strictly, where those of its values do.
  pub array_spelled : (vs : List FieldValue) → (any_value_long (values_of vs) || nat_le (2 ^ 32) (length (values_bytes (values_of vs)))) ≡ false
      → SpellsEach Strict (values_bytes (values_of vs)) vs → SpellsArray Strict (with_length (values_bytes (values_of vs))) vs
  array_spelled vs few h =
      record { inner = values_bytes (values_of vs); framed = record { fits = fits_four (any_value_long (values_of vs)) _ few; bytes_are = refl }; each = h }

  -- The canonical bytes of a table with ascending keys that is not long encode it strictly, where those of its values do.
  pub table_spelled : (es : List Entry) → (any_entry_long (entries_of es) || nat_le (2 ^ 32) (length (entries_bytes (entries_of es)))) ≡ false
      → IsRising es → EachEntry IsKey (λ v. Strict (tagged_bytes v) v) es → SpellsTable strict Strict (with_length (entries_bytes (entries_of es))) es
  table_spelled es few rising h = record {
    inner = entries_bytes (entries_of es);
    entries = es;
    framed = record { fits = fits_four (any_entry_long (entries_of es)) _ few; bytes_are = refl };
    each = entries_spelled es h;
    counts = own_settled es rising;
    once = refl;
  }

module _ (Plain Strict : List ℕ → FieldValue → Type 0) (again : (bytes : List ℕ) (v : FieldValue) → Plain bytes v → Strict (tagged_bytes v) v) where
  values_again : (bytes : List ℕ) (vs : List FieldValue) → SpellsEach Plain bytes vs → SpellsEach Strict (values_bytes (values_of vs)) vs
  values_again bytes [] h = refl
  values_again bytes (v ∷ vs) h = (tagged_bytes v, values_bytes (values_of vs), refl, again h.0 v h.3, values_again h.1 vs h.4)

  entries_again : (bytes : List ℕ) (es : List Entry) → SpellsEach (SpellsEntry Plain) bytes es → EachEntry IsKey (λ v. Strict (tagged_bytes v) v) es
  unfolding EachEntry IsKey
  entries_again bytes [] h = tt
  entries_again bytes (e ∷ es) h =
      let entry = h.3 in
      let K : Entry → Type 0 = λ x. SpellsShortString (short_string_bytes x.0) x.0 in
      let V : Entry → Type 0 = λ x. Strict (tagged_bytes x.1) x.1 in (
        subst K (sym entry.joined) (record { fits = entry.first_is.fits; utf8 = entry.first_is.utf8; bytes_are = refl }),
        subst V (sym entry.joined) (again entry.behind entry.two entry.second_is),
        entries_again h.1 es h.4,
      )

  -- An array that is encoded at level plain and is not long is encoded strictly by its canonical bytes, where its values are.
  pub array_again : (bytes : List ℕ) (vs : List FieldValue) → (any_value_long (values_of vs) || nat_le (2 ^ 32) (length (values_bytes (values_of vs)))) ≡ false
      → SpellsArray Plain bytes vs → SpellsArray Strict (with_length (values_bytes (values_of vs))) vs
  array_again bytes vs few h = array_spelled Strict vs few (values_again h.inner vs h.each)

  -- A table that is encoded at level plain and is not long is encoded strictly by its canonical bytes, where its values are.
  pub table_again : (bytes : List ℕ) (es : List Entry) → (any_entry_long (entries_of es) || nat_le (2 ^ 32) (length (entries_bytes (entries_of es)))) ≡ false
      → SpellsTable plain Plain bytes es → SpellsTable strict Strict (with_length (entries_bytes (entries_of es))) es
  table_again bytes es few h =
      let V : FieldValue → Type 0 = λ v. Strict (tagged_bytes v) v in
      let P : List Entry → Type 0 = λ fs. EachEntry IsKey V fs in
      let all = subst P (settled_is h.entries es h.counts) (each-settled_on IsKey V [] h.entries (each-nil IsKey V) (entries_again h.inner h.entries h.each)) in
      table_spelled Strict es few h.counts.rising all

  behind_again : (room : ℕ) (bytes : List ℕ) (v : FieldValue) → is_long v ≡ false
      → SpellsBehind plain room Plain bytes v → SpellsBehind strict room Strict (value_bytes v) v
  behind_again room bytes (boolean_value true) few h = refl
  behind_again room bytes (boolean_value false) few h = refl
  behind_again room bytes (signed_value kind n) few h =
      let P : List ℕ → Type 0 = λ bs. SpellsBehind strict room Strict bs (signed_value kind n) in
      subst P (signed_only (signed_width kind) bytes n h) h
  behind_again room bytes (unsigned_value kind n) few h = record { fits = h.fits; bytes_are = refl }
  behind_again room bytes (decimal_value scale n) few h =
      let P : List ℕ → Type 0 = λ bs. SpellsBehind strict room Strict bs (decimal_value scale n) in
      subst P
      (h.bytes_are ∙ ap₂ (λ a b. a ++ b) h.first_is.bytes_are h.second_is.bytes_are
      ∙ ap (λ (d : ℕ × ℕ). number_bytes bytes1 d.0 ++ number_bytes bytes4 d.1) (sym h.joined)) h
  behind_again room bytes (bytes_value kind s) few h = record { fits = h.fits; bytes_are = refl }
  behind_again room bytes (array_value vs) few h =
      let P : FieldValues → Type 0 = λ ws. (any_value_long ws || nat_le (2 ^ 32) (length (values_bytes ws))) ≡ false in
      let Q : FieldValues → Type 0 = λ ws. SpellsArray Strict (with_length (values_bytes ws)) (items vs) in
      (h.0, subst Q (values_of-items vs) (array_again bytes (items vs) (subst P (sym (values_of-items vs)) few) h.1))
  behind_again room bytes (table_value es) few h =
      let P : FieldEntries → Type 0 = λ fs. (any_entry_long fs || nat_le (2 ^ 32) (length (entries_bytes fs))) ≡ false in
      let Q : FieldEntries → Type 0 = λ fs. SpellsTable strict Strict (with_length (entries_bytes fs)) (pairs es) in
      (h.0, subst Q (entries_of-pairs es) (table_again bytes (pairs es) (subst P (sym (entries_of-pairs es)) few) h.1))
  behind_again room bytes void_value few h = refl

  tagged_again : (room : ℕ) (bytes : List ℕ) (v : FieldValue) → is_long v ≡ false
      → SpellsTagged plain (SpellsBehind plain room Plain) bytes v → SpellsTagged strict (SpellsBehind strict room Strict) (tagged_bytes v) v
  tagged_again room bytes v few h =
      record { byte = tag_byte (tag_of v); behind = value_bytes v; bytes_are = refl; tag_is = refl; value_is = behind_again room h.behind v few h.value_is }

-- A value that is encoded at level plain is encoded strictly by its canonical bytes.
pub value_again : (room : ℕ) (bytes : List ℕ) (v : FieldValue) → SpellsValue plain room bytes v → SpellsValue strict room (tagged_bytes v) v
unfolding SpellsValue
value_again zero bytes v h = let b = value_bounded 0 bytes v h in tagged_again (λ _ _. ⊥) (λ _ _. ⊥) (λ bytes v h. absurd h) 0 bytes v b.not_long h
value_again (suc room) bytes v h =
    let b = value_bounded (suc room) bytes v h in
    tagged_again (SpellsValue plain room) (SpellsValue strict room) (value_again room) (suc room) bytes v b.not_long h
