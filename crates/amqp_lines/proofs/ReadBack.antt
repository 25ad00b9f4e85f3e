-- The text of values, arrays and tables is read back as their canonical bytes, whatever follows.
use Rattle.amqp_lines.proofs
use proofs.Names.{read_number, read_string, Reader, followed, is_hex, is_digit, read_byte_array, listed, inside, or_comma, framed, read_item, read_list}
use proofs.Names.{read_tagged, read_lists, read_value, ◌≡◌, ℕ, zero, suc, ◌<◌, List, [], ◌∷◌, ◌++◌, length, drop, map, Bool, true, false, refl, sym, ap, ◌∙◌}
use proofs.Names.{append_assoc, arith, codes, ◌==◌, decimal, strict, IsBytes, bytes1, bytes4, SpellsLongString, FieldValue, FieldValues, FieldEntries, Entry}
use proofs.Names.{short_short_int, short_short_uint, long_string, byte_array, boolean_value, signed_value, unsigned_value, decimal_value, bytes_value}
use proofs.Names.{array_value, table_value, void_value, no_values, next_value, no_entries, next_entry, items, pairs, entries_of, tag_of, tag_byte, FieldTag}
use proofs.Names.{SpellsEach, SpellsEntry, SpellsArray, SpellsTable, SpellsBehind, SpellsTagged, SpellsValue, entries_of-pairs, pairs-entries_of, hex, quoted}
use proofs.Names.{parted, tag_text, truth_text, content_text, values_texts, entries_texts, value_text, table_text, array_text, entry_text, signed_width}
use proofs.Names.{unsigned_width, SpellsBoth, lengths}
use proofs.Names.tag
use Rattle.amqp_lines.specs.Reading.{read_truth, read_decimal, read_behind}
use Rattle.amqp_types.specs.Booleans.{SpellsBoolean}
use Rattle.amqp_types.specs.ValueSpelling.{SpellsDecimal}
use proofs.ReadSteps.{no_comma}
use proofs.ReadWords.{Ends, IsReadAs, Begins, begins_more, listed_end, listed_comma, listed_item, bytes_behind, bytes_front, long_content, number_back}
use proofs.ReadWords.{signed_back, hex_back, long_string_back, short_string_back}

-- ---- what fills an array or a table

module _ {A : Type 0} (item : Reader) (Spells : List ℕ → A → Type 0) (text : A → List ℕ) (read : IsReadAs item Spells text)
    (close : ℕ) (ends : is_hex close ≡ false) (apart : (44 == close) ≡ false) (begins : (x : A) → Begins close 44 (text x)) where
  item_back : (x : A) (fuel : ℕ) (bytes rest : List ℕ) → IsBytes bytes → Spells bytes x → Ends rest
      → listed (or_comma item) close (suc fuel) (text x ++ rest) ≡ followed (bytes, rest) (listed (or_comma item) close fuel)
  item_back x fuel bytes rest fits h e =
      let one = begins_more rest (begins x) in
      listed_item (or_comma item) close fuel (text x ++ rest) one.no_close (no_comma item (text x ++ rest) one.no_comma ∙ read bytes rest x fits h e)

  each_back : (xs : List A) (fuel : ℕ) (bytes rest : List ℕ) → IsBytes bytes → SpellsEach Spells bytes xs
      → length (parted (map text xs)) < fuel → listed (or_comma item) close fuel (parted (map text xs) ++ (close ∷ rest)) ≡ (bytes, rest)
  unfolding parted is_hex is_digit
  each_back [] fuel bytes rest fits h few = rw h (listed_end (or_comma item) close fuel)
  each_back (x ∷ xs) zero bytes rest fits h few = absurd (omega arith)
  each_back (x ∷ []) (suc fuel) bytes rest fits h few =
      let is : bytes ≡ h.0 ++ [] = rw h.4 at h.2 in
      rw (is, item_back x fuel h.0 (close ∷ rest) (bytes_front h.0 [] is fits) h.3 ends, listed_end (or_comma item) close fuel)
  each_back (x ∷ y ∷ xs) (suc zero) bytes rest fits h few =
      absurd (let some : 0 < length (text x) = (begins x).some in omega lengths)
  each_back (x ∷ y ∷ xs) (suc (suc fuel)) bytes rest fits h few =
      let some : 0 < length (text x) = (begins x).some in
      let inner = parted (text y ∷ map text xs) in
      let tail = inner ++ (close ∷ rest) in
      let others = each_back (y ∷ xs) fuel h.1 rest (bytes_behind h.0 h.1 h.2 fits) h.4 (omega lengths) in
      let front = item_back x (suc fuel) h.0 (44 ∷ tail) (bytes_front h.0 h.1 h.2 fits) h.3 refl in
      rw (h.2, append_assoc (text x) (44 ∷ inner) (close ∷ rest), front, listed_comma item close fuel tail apart others)

  inside_back : (open_ : ℕ) (xs : List A) (bytes inner rest : List ℕ) → IsBytes bytes → SpellsLongString bytes inner → SpellsEach Spells inner xs
      → framed 4 (inside (or_comma item) close ((open_ ∷ (parted (map text xs) ++ (close ∷ []))) ++ rest)) ≡ (bytes, rest)
  unfolding inside
  inside_back open_ xs bytes inner rest fits framed_so each =
      let words = parted (map text xs) in
      let fuel = length (open_ ∷ ((words ++ close ∷ []) ++ rest)) in
      let few : length words < fuel = omega lengths in
      rw framed_so.bytes_are (ap (framed 4) (ap (listed (or_comma item) close fuel) (append_assoc words (close ∷ []) rest)
      ∙ each_back xs fuel inner rest (long_content framed_so fits) each few))

-- two things and a character between them are read back, one after the other
both_back : {A B C : Type 0} (One Two : Reader) {First : List ℕ → A → Type 0}
    {Second : List ℕ → B → Type 0} {join : A → B → C} (a : A → List ℕ) (b : B → List ℕ)
    (c : ℕ) (one : IsReadAs One First a) (two : IsReadAs Two Second b) → is_hex c ≡ false → (bytes rest : List ℕ) (z : C) → IsBytes bytes
    → (s : SpellsBoth First Second join bytes z) → Ends rest → followed (One ((a s.one ++ (c ∷ b s.two)) ++ rest)) (λ t. Two (drop 1 t)) ≡ (bytes, rest)
both_back One Two a b c one two apart bytes rest z fits s ends =
    let first = one s.front (c ∷ (b s.two ++ rest)) s.one (bytes_front s.front s.behind s.bytes_are fits) s.first_is apart in
    let second = two s.behind rest s.two (bytes_behind s.front s.behind s.bytes_are fits) s.second_is ends in
    rw (append_assoc (a s.one) (c ∷ b s.two) rest, first, second) (ap (λ bs. (bs, rest)) (sym s.bytes_are))

entry_begins : (e : Entry) → Begins 125 44 (entry_text e)
unfolding entry_text quoted
entry_begins e = record { some = omega arith; no_close = refl; no_comma = refl }

-- The texts of the values in a list are the texts of its items.
pub values_are : (vs : FieldValues) → map value_text (items vs) ≡ values_texts vs
unfolding value_text
values_are no_values = refl
values_are (next_value v vs) = ap (λ ts. (tag_text (tag_of v) ++ content_text v) ∷ ts) (values_are vs)

-- The texts of the entries in a table are the texts of its pairs.
pub entries_are : (es : FieldEntries) → map entry_text (pairs es) ≡ entries_texts es
unfolding entry_text value_text
entries_are no_entries = refl
entries_are (next_entry k v es) = ap (λ ts. (quoted k ++ (codes "=" ++ (tag_text (tag_of v) ++ content_text v))) ∷ ts) (entries_are es)

-- ---- after a tag

decimal_back : IsReadAs read_decimal SpellsDecimal (λ d. decimal d.0 ++ (codes "/" ++ decimal d.1))
unfolding read_decimal is_hex is_digit
decimal_back bytes rest d fits h ends =
    ap (λ x. read_decimal ((decimal x.0 ++ (codes "/" ++ decimal x.1)) ++ rest)) h.joined
    ∙ both_back (read_number 1) (read_number 4) decimal decimal 47 (number_back bytes1) (number_back bytes4) refl bytes rest d fits h ends

truth_back : IsReadAs read_truth (SpellsBoolean strict) truth_text
unfolding read_truth
truth_back bytes rest true fits h ends = ap (λ bs. (bs, rest)) (sym h)
truth_back bytes rest false fits h ends = ap (λ bs. (bs, rest)) (sym h)

byte_array_back : IsReadAs read_byte_array SpellsLongString hex
unfolding read_byte_array
byte_array_back bytes rest content fits h ends = rw h.bytes_are (ap (framed 4) (hex_back content rest (long_content h fits) ends))

-- the tag letter does not close an array
tag_begins : (t : FieldTag) (content : List ℕ) → Begins 93 44 (tag_text t ++ content)
tag_begins tag.Void content = record { some = omega arith; no_close = refl; no_comma = refl }
tag_begins t content = record { some = omega arith; no_close = refl; no_comma = refl }

value_begins : (v : FieldValue) → Begins 93 44 (value_text v)
unfolding value_text
value_begins v = tag_begins (tag_of v) _

module _ (value : Reader) (Spells : List ℕ → FieldValue → Type 0) (read : IsReadAs value Spells value_text) where
  entry_back : IsReadAs (read_item value true) (SpellsEntry Spells) entry_text
  unfolding entry_text is_hex is_digit
  entry_back bytes rest e fits h ends =
      ap (λ x. read_item value true (entry_text x ++ rest)) h.joined
      ∙ both_back (read_string 1) value quoted value_text 61 short_string_back read refl bytes rest e fits h ends

  -- a table
  table_back : IsReadAs (read_list value true) (SpellsTable strict Spells) table_text
  unfolding read_list table_text is_hex is_digit
  table_back bytes rest es fits h ends =
      ap (λ ts. framed 4 (inside (or_comma (read_item value true)) 125 ((123 ∷ (parted ts ++ 125 ∷ [])) ++ rest)))
      (sym (ap (map entry_text) (sym (pairs-entries_of es)) ∙ entries_are (entries_of es)))
      ∙ inside_back (read_item value true) (SpellsEntry Spells) entry_text
      entry_back 125 refl refl entry_begins 123 es bytes h.inner rest fits h.framed (rw h.once at h.each)

  -- values between brackets
  array_back : IsReadAs (read_list value false) (SpellsArray Spells) array_text
  unfolding read_list array_text is_hex is_digit
  array_back bytes rest vs fits h ends =
      inside_back (read_item value false) Spells value_text read 93 refl refl value_begins 91 vs bytes h.inner rest fits h.framed h.each

-- how arrays and tables are read, where there is room for one more
record IsNested (room : ℕ) (lists : Bool → Reader) (Spells : List ℕ → FieldValue → Type 0) : Type 0 where
  arrays : 0 < room → IsReadAs (lists false) (SpellsArray Spells) array_text
  tables : 0 < room → IsReadAs (lists true) (SpellsTable strict Spells) table_text

tag_step : (lists : Bool → Reader) (t : FieldTag) (text : List ℕ)
    → read_tagged lists (tag_text t ++ text) ≡ (tag_byte t ∷ (read_behind lists t text).0, (read_behind lists t text).1)
unfolding read_tagged
tag_step lists tag.Void text = refl
tag_step lists t text = refl

module _ (room : ℕ) (lists : Bool → Reader) (Spells : List ℕ → FieldValue → Type 0) (n : IsNested room lists Spells) where
  behind_back : (bytes rest : List ℕ) (v : FieldValue) → IsBytes bytes → SpellsBehind strict room Spells bytes v → Ends rest
      → read_behind lists (tag_of v) (content_text v ++ rest) ≡ (bytes, rest)
  unfolding read_behind array_text table_text
  behind_back bytes rest (boolean_value b) fits h e = truth_back bytes rest b fits h e
  behind_back bytes rest (signed_value short_short_int k) fits h e = signed_back bytes1 bytes rest k fits h e
  behind_back bytes rest (signed_value kind k) fits h e = signed_back (signed_width kind) bytes rest k fits h e
  behind_back bytes rest (unsigned_value short_short_uint k) fits h e = number_back bytes1 bytes rest k fits h e
  behind_back bytes rest (unsigned_value kind k) fits h e = number_back (unsigned_width kind) bytes rest k fits h e
  behind_back bytes rest (decimal_value scale k) fits h e = decimal_back bytes rest (scale, k) fits h e
  behind_back bytes rest (bytes_value long_string content) fits h e = long_string_back bytes rest content fits h e
  behind_back bytes rest (bytes_value byte_array content) fits h e = byte_array_back bytes rest content fits h e
  behind_back bytes rest (array_value vs) fits h e =
      ap (λ ts. lists false ((91 ∷ (parted ts ++ 93 ∷ [])) ++ rest)) (sym (values_are vs)) ∙ n.arrays h.0 bytes rest (items vs) fits h.1 e
  behind_back bytes rest (table_value es) fits h e =
      ap (λ fs. lists true ((codes "{" ++ (parted (entries_texts fs) ++ codes "}")) ++ rest)) (sym (entries_of-pairs es))
      ∙ n.tables h.0 bytes rest (pairs es) fits h.1 e
  behind_back bytes rest void_value fits h e = ap (λ bs. (bs, rest)) (sym h)

  tagged_back : IsReadAs (read_tagged lists) (SpellsTagged strict (SpellsBehind strict room Spells)) value_text
  unfolding value_text
  tagged_back bytes rest v fits h ends =
      let t = tag_of v in
      let behind = behind_back h.behind rest v (bytes_behind (h.byte ∷ []) h.behind h.bytes_are fits) h.value_is ends in
      rw (append_assoc (tag_text t) (content_text v) rest, tag_step lists t (content_text v ++ rest), behind)
      (ap (λ b. (b ∷ h.behind, rest)) (sym h.tag_is) ∙ ap (λ bs. (bs, rest)) (sym h.bytes_are))

-- ---- a tag and its value

value_back : (room : ℕ) → IsReadAs (read_value room) (SpellsValue strict room) value_text
unfolding read_value read_lists SpellsValue
value_back zero = tagged_back 0 _ (λ _ _. ⊥) (record { arrays = λ some. absurd (omega arith); tables = λ some. absurd (omega arith) })
value_back (suc room) = tagged_back (suc room) _ _ (record {
  arrays = λ some. array_back _ _ (value_back room);
  tables = λ some. table_back _ _ (value_back room);
})

-- a table that is a field or a property
pub field_table_back : (room : ℕ) → IsReadAs (read_lists (suc room) true) (SpellsTable strict (SpellsValue strict room)) table_text
unfolding read_lists read_value
field_table_back room = table_back _ _ (value_back room)
