-- The text of a value is at most four times as long as the bytes that encode it strictly, with the comma after it.
use Rattle.amqp_lines.proofs
use proofs.Names.{◌/◌, ◌≡◌, ◌≤◌, ◌<◌, ℕ, zero, suc, pos, negsuc, ◌+◌, ◌-◌, ◌*◌, ◌^◌, Bool, true, false, cond, List, [], ◌∷◌, ◌++◌, length, refl, sym, ap, arith}
use proofs.Names.{nat_lt, cast_signed, decimal, signed_decimal, flat_map, strict, NumberWidth, bytes1, bytes2, bytes4, bytes8, byte_count, number_bytes}
use proofs.Names.{number_limit, width_of, SpellsLongString, FieldValue, FieldValues, FieldEntries, boolean_value, signed_value, unsigned_value, decimal_value}
use proofs.Names.{bytes_value, array_value, table_value, void_value, long_string, byte_array, no_values, next_value, no_entries, next_entry, items, pairs}
use proofs.Names.{signed_width, unsigned_width, SpellsEach, SpellsEntry, SpellsTable, SpellsBehind, SpellsTagged, SpellsValue, tag_of, FieldTag, hex_byte, hex}
use proofs.Names.{escaped, quoted, sign, signs, parted, tag_text, content_text, values_texts, entries_texts, lengths, numbers}
use proofs.Names.tag
use Rattle.std.proofs.lemmas.Fmt.{length-decimal-le_wide}
use Rattle.std.proofs.lemmas.List.{length-map}

-- ---- numbers

-- A number of a width is encoded in as many bytes as the width has.
pub number_size : (width : NumberWidth) (n : ℕ) → length (number_bytes width n) ≡ byte_count width
number_size bytes1 n = refl
number_size width n = refl

-- how many digits a number of a width has at most
abbrev digits_most : NumberWidth → ℕ
digits_most bytes1 = 3
digits_most bytes2 = 5
digits_most bytes4 = 10
digits_most bytes8 = 20

decimal_long : (width : NumberWidth) (n : ℕ) → n ≤ number_limit width → length (decimal n) ≤ digits_most width
decimal_long bytes1 n fits = length-decimal-le_wide 3 n (omega arith) (omega arith) (omega arith)
decimal_long width n fits = length-decimal-le_wide (digits_most width) n (omega arith) (omega arith) (omega arith)

digits_few : (width : NumberWidth) → digits_most width + 1 ≤ 4 * byte_count width
digits_few bytes1 = omega arith
digits_few width = omega arith

-- A number as it is printed, with one character more, is at most four times as long as its encoding.
pub number_long : (width : NumberWidth) (n : ℕ) → n < number_limit width → length (decimal n) + 1 ≤ 4 * byte_count width
number_long width n fits = omega (arith, decimal_long width n (omega arith), digits_few width)

signed_by : (k n m : ℕ) (b : Bool) → length (decimal n) ≤ k → length (decimal (suc m)) ≤ k → length (signed_decimal (cond b (pos n) (negsuc m))) ≤ k + 1
signed_by k n m true h less = omega arith
signed_by k n m false h less = omega arith

signed_long : (width : NumberWidth) (n : ℕ) → n < number_limit width
    → length (signed_decimal (cast_signed (width_of width) n)) ≤ digits_most width + 1
signed_long bytes1 n fits = signed_by 3 n (2 ^ 8 - suc n) (nat_lt n (2 ^ 7)) (decimal_long bytes1 n (omega arith)) (decimal_long bytes1 _ (omega arith))
signed_long width n fits =
    signed_by (digits_most width) n (number_limit width - suc n) (nat_lt n (number_limit width / 2))
    (decimal_long width n (omega arith)) (decimal_long width _ (omega arith))

-- ---- bytes and strings

each_long : (f : ℕ → List ℕ) → ((n : ℕ) → length (f n) ≤ 3) → (bytes : List ℕ) → length (flat_map f bytes) ≤ 3 * length bytes
each_long f one [] = omega arith
each_long f one (byte ∷ bytes) = omega (lengths, one byte, each_long f one bytes)

-- The hex text of bytes is at most three times as long as they are.
pub hex_long : (bytes : List ℕ) → length (hex bytes) ≤ 3 * length bytes
unfolding hex hex_byte
hex_long bytes = each_long hex_byte (λ n. omega arith) bytes

escaped_long : (byte : ℕ) → length (escaped byte) ≤ 3
unfolding escaped hex_byte
escaped_long byte = grind numbers

-- A quoted string is at most three times as long as its bytes, and two characters.
pub quoted_long : (bytes : List ℕ) → length (quoted bytes) ≤ 3 * length bytes + 2
unfolding quoted
quoted_long bytes = omega (lengths, each_long escaped escaped_long bytes)

-- Flags have one sign each.
pub signs_long : (flags : List Bool) → length (signs flags) ≡ length flags
unfolding signs
signs_long flags = length-map flags sign

-- the lengths of texts, each with that of a comma
abbrev texts_size : List (List ℕ) → ℕ
texts_size [] = 0
texts_size (text ∷ texts) = length text + 1 + texts_size texts

parted_long : (texts : List (List ℕ)) → length (parted texts) ≤ texts_size texts
unfolding parted
parted_long [] = omega arith
parted_long (text ∷ []) = omega arith
parted_long (text ∷ next ∷ texts) = omega (lengths, parted_long (next ∷ texts))

-- A long string is encoded in four bytes more than it has.
pub long_inner : {bytes content : List ℕ} → SpellsLongString bytes content → length bytes ≡ 4 + length content
long_inner h = omega (lengths, ap length h.bytes_are)

-- ---- values

tag_long : (t : FieldTag) → length (tag_text t) ≤ 2
tag_long tag.Void = omega arith
tag_long t = omega arith

-- the text of a value, with a comma
abbrev pub IsLong : (List ℕ → FieldValue → Type 0) → Type 0
IsLong Spelled = (bytes : List ℕ) (v : FieldValue) → Spelled bytes v → length (tag_text (tag_of v) ++ content_text v) + 1 ≤ 4 * length bytes

module _ (room : ℕ) (Spelled : List ℕ → FieldValue → Type 0) (good : IsLong Spelled) where
  values_long : (bytes : List ℕ) (vs : FieldValues) → SpellsEach Spelled bytes (items vs) → texts_size (values_texts vs) ≤ 4 * length bytes
  values_long bytes no_values h = omega arith
  values_long bytes (next_value v vs) h = omega (lengths, ap length h.2, good h.0 v h.3, values_long h.1 vs h.4)

  entries_long : (bytes : List ℕ) (es : FieldEntries) → SpellsEach (SpellsEntry Spelled) bytes (pairs es) → texts_size (entries_texts es) ≤ 4 * length bytes
  entries_long bytes no_entries h = omega arith
  entries_long bytes (next_entry k v es) h =
      let entry = h.3 in
      let value = sym (ap (λ e. e.1) entry.joined) in
      omega (
        lengths,
        ap length h.2,
        ap length entry.bytes_are,
        ap length entry.first_is.bytes_are,
        ap (λ e. length e.0) entry.joined,
        quoted_long k,
        good entry.behind v (rw value at entry.second_is),
        entries_long h.1 es h.4,
      )

  -- The text of a table, with one character more, is at most four times as long as its strict encoding, where that of each value is.
  pub table_long : (bytes : List ℕ) (es : FieldEntries) → SpellsTable strict Spelled bytes (pairs es)
      → length (content_text (table_value es)) + 1 ≤ 4 * length bytes
  table_long bytes es h =
      omega (
        lengths,
        long_inner h.framed,
        entries_long h.inner es (rw h.once at h.each),
        parted_long (entries_texts es),
      )

  behind_long : (bytes : List ℕ) (v : FieldValue) → SpellsBehind strict room Spelled bytes v → length (content_text v) ≤ 4 * length bytes + 1
  behind_long bytes (boolean_value true) h = omega arith
  behind_long bytes (boolean_value false) h = omega arith
  behind_long bytes (signed_value kind n) h =
      omega (
        arith,
        ap (λ z. length (signed_decimal z)) h.means,
        signed_long (signed_width kind) h.bits h.spelled.fits,
        digits_few (signed_width kind),
        ap length h.spelled.bytes_are,
        number_size (signed_width kind) h.bits,
      )
  behind_long bytes (unsigned_value kind n) h =
      omega (arith, number_long (unsigned_width kind) n h.fits, ap length h.bytes_are, number_size (unsigned_width kind) n)
  behind_long bytes (decimal_value scale n) h =
      omega (
        lengths,
        ap length h.bytes_are,
        ap length h.first_is.bytes_are,
        ap length h.second_is.bytes_are,
        number_long bytes1 scale (omega (arith, ap (λ d. d.0) h.joined, h.first_is.fits)),
        number_long bytes4 n (omega (arith, ap (λ d. d.1) h.joined, h.second_is.fits)),
      )
  behind_long bytes (bytes_value long_string content) h = omega (arith, long_inner h, quoted_long content)
  behind_long bytes (bytes_value byte_array content) h = omega (arith, long_inner h, hex_long content)
  behind_long bytes (array_value vs) h =
      omega (
        lengths,
        long_inner h.1.framed,
        values_long h.1.inner vs h.1.each,
        parted_long (values_texts vs),
      )
  behind_long bytes (table_value es) h = omega (arith, table_long bytes es h.1)
  behind_long bytes void_value h = omega arith

tagged_long : (Spelled : List ℕ → FieldValue → Type 0)
    → ((bytes : List ℕ) (v : FieldValue) → Spelled bytes v → length (content_text v) ≤ 4 * length bytes + 1) → IsLong (SpellsTagged strict Spelled)
tagged_long Spelled good bytes v h =
    omega (lengths, ap length h.bytes_are, good h.behind v h.value_is, tag_long (tag_of v))

-- The text of a value, with one character more, is at most four times as long as its strict encoding.
pub value_long : (room : ℕ) → IsLong (SpellsValue strict room)
unfolding SpellsValue
value_long zero = tagged_long (SpellsBehind strict 0 (λ _ _. ⊥)) (behind_long 0 (λ _ _. ⊥) (λ bytes v h. absurd h))
value_long (suc room) =
    tagged_long _ (behind_long (suc room) _ (value_long room))
