-- Decoding values takes exactly what is encoded.
use Rattle.std.proofs.Common.{◌≡◌, ℕ, zero, suc, ◌+◌, ◌<◌, ◌≤◌, List, [], ◌∷◌, ◌++◌, length, take, Option, Some, None, refl, sym, ap, subst, ◌∙◌, arith}
use Rattle.std.specs.Option.{ForSome}
use Rattle.amqp_types.specs.Levels.{Level, plain}
use Rattle.amqp_types.specs.Judging.{Judge, took, ◌>>=◌, IsBytes, IsExact}
use Rattle.amqp_types.specs.Sequences.{judge_map}
use Rattle.amqp_types.specs.Numbers.{bytes1, bytes4, judge_number, SpellsNumber}
use Rattle.amqp_types.specs.Signed.{judge_signed, SpellsSigned}
use Rattle.amqp_types.specs.Booleans.{judge_boolean, SpellsBoolean}
use Rattle.amqp_types.specs.Strings.{judge_long_string, SpellsLongString}
use Rattle.amqp_types.specs.Values.{FieldValue, SignedKind, UnsignedKind, BytesKind, short_short_int, short_int, long_int, long_long_int, short_short_uint}
use Rattle.amqp_types.specs.Values.{short_uint, long_uint, float, double, timestamp, long_string, byte_array, boolean_value, signed_value, unsigned_value}
use Rattle.amqp_types.specs.Values.{decimal_value, bytes_value, array_value, table_value, void_value, items, pairs, values_of, entries_of}
use Rattle.amqp_types.specs.ValueBytes.{signed_width, unsigned_width}
use Rattle.amqp_types.specs.Tags.{tag_at, tag_of, SpellsTag}
use Rattle.amqp_types.specs.ValueJudging.{judge_array, judge_table, judge_decimal, judge_signed_kind, judge_unsigned_kind, judge_bytes_kind, judge_behind}
use Rattle.amqp_types.specs.ValueJudging.{behind_tag, judge_tagged, nested, judge_value}
use Rattle.amqp_types.specs.ValueSpelling.{SpellsDecimal, SpellsArray, SpellsTable, SpellsBehind, SpellsTagged, SpellsValue}
use Rattle.amqp_types.specs.declared.tag.FieldTag.{FieldTag}
use Rattle.amqp_types.specs.declared.tag.FieldTag.TheVariants as tag
use Rattle.amqp_types.proofs.Booleans.{boolean_laws}
use Rattle.amqp_types.proofs.Numbers.{number_exact}
use Rattle.amqp_types.proofs.Texts.{signed_exact, long_string_exact}
use Rattle.amqp_types.proofs.Sequences.{map_spelled, map_taken, both_exact}
use Rattle.amqp_types.proofs.Took.{bind_took, value_took, count_took}
use Rattle.amqp_laws.proofs.Conversions.{items-values_of, pairs-entries_of, values_of-items, entries_of-pairs}
use Rattle.amqp_laws.proofs.Tags.{tag_spelled, tag_read}
use Rattle.amqp_laws.proofs.Filled.{HasBytes, array_exact, table_exact}

-- Decoding a decimal value takes exactly what encodes it.
pub decimal_exact : IsExact judge_decimal SpellsDecimal
unfolding judge_decimal
decimal_exact =
    both_exact (judge_number bytes1) (judge_number bytes4) (λ scale n. (scale, n))
    (SpellsNumber bytes1) (SpellsNumber bytes4) (number_exact bytes1) (number_exact bytes4)

-- ---- which tag a value has that was read after a tag

pub mapped_tag : {A : Type 0} (make : A → FieldValue) (judge : Judge A) (t : FieldTag) → ((x : A) → tag_of (make x) ≡ t)
    → (bytes : List ℕ) (v : FieldValue) (n : ℕ) → judge_map make judge bytes ≡ took v n → tag_of v ≡ t
mapped_tag make judge t same bytes v n h =
    let found = bind_took (judge bytes) _ v n h in
    ap tag_of (sym (value_took (make found.0) v _ n found.3)) ∙ same found.0

-- A value decoded after a tag has that tag.
pub tag_behind : (nest : Option (Judge FieldValue)) (t : FieldTag) (bytes : List ℕ) (v : FieldValue) (n : ℕ)
    → judge_behind nest t bytes ≡ took v n → tag_of v ≡ t
unfolding judge_behind
tag_behind nest tag.Boolean bytes v n h = mapped_tag boolean_value judge_boolean _ (λ x. refl) bytes v n h
tag_behind nest tag.ShortShortInt bytes v n h = mapped_tag (signed_value short_short_int) (judge_signed bytes1) _ (λ x. refl) bytes v n h
tag_behind nest tag.ShortShortUInt bytes v n h = mapped_tag (unsigned_value short_short_uint) (judge_number bytes1) _ (λ x. refl) bytes v n h
tag_behind nest tag.ShortInt bytes v n h = mapped_tag (signed_value short_int) (judge_signed (signed_width short_int)) _ (λ x. refl) bytes v n h
tag_behind nest tag.ShortUInt bytes v n h = mapped_tag (unsigned_value short_uint) (judge_number (unsigned_width short_uint)) _ (λ x. refl) bytes v n h
tag_behind nest tag.LongInt bytes v n h = mapped_tag (signed_value long_int) (judge_signed (signed_width long_int)) _ (λ x. refl) bytes v n h
tag_behind nest tag.LongUInt bytes v n h = mapped_tag (unsigned_value long_uint) (judge_number bytes4) _ (λ x. refl) bytes v n h
tag_behind nest tag.LongLongInt bytes v n h = mapped_tag (signed_value long_long_int) (judge_signed (signed_width long_long_int)) _ (λ x. refl) bytes v n h
tag_behind nest tag.Float bytes v n h = mapped_tag (unsigned_value float) (judge_number bytes4) _ (λ x. refl) bytes v n h
tag_behind nest tag.Double bytes v n h = mapped_tag (unsigned_value double) (judge_number (unsigned_width double)) _ (λ x. refl) bytes v n h
tag_behind nest tag.DecimalValue bytes v n h = mapped_tag (λ d. decimal_value d.0 d.1) judge_decimal _ (λ x. refl) bytes v n h
tag_behind nest tag.LongString bytes v n h = mapped_tag (bytes_value long_string) judge_long_string _ (λ x. refl) bytes v n h
tag_behind None tag.FieldArray bytes v n h = cc
tag_behind (Some value) tag.FieldArray bytes v n h = mapped_tag (λ vs. array_value (values_of vs)) (judge_array value) _ (λ x. refl) bytes v n h
tag_behind nest tag.Timestamp bytes v n h = mapped_tag (unsigned_value timestamp) (judge_number (unsigned_width timestamp)) _ (λ x. refl) bytes v n h
tag_behind None tag.FieldTable bytes v n h = cc
tag_behind (Some value) tag.FieldTable bytes v n h = mapped_tag (λ es. table_value (entries_of es)) (judge_table value) _ (λ x. refl) bytes v n h
tag_behind nest tag.ByteArray bytes v n h = mapped_tag (bytes_value byte_array) judge_long_string _ (λ x. refl) bytes v n h
tag_behind nest tag.Void bytes v n h = ap tag_of (sym (value_took void_value v 0 n h))

-- ---- after a tag

-- where there is room, what is nested is decoded exactly
IsNested : ℕ → Option (Judge FieldValue) → (List ℕ → FieldValue → Type 0) → Type 0
IsNested room nest Spells = ForSome nest (λ value. (0 < room) × IsExact value Spells)

-- what is taken is encoded by the bytes that it uses
IsSound : Judge FieldValue → (List ℕ → FieldValue → Type 0) → Type 0
IsSound judge Spells = (bytes : List ℕ) (v : FieldValue) (n : ℕ) → IsBytes bytes → judge bytes ≡ took v n → Spells (take n bytes) v × (n ≤ length bytes)

module _ (room : ℕ) (Spells : List ℕ → FieldValue → Type 0) (some : HasBytes Spells) where
  abbrev Behind : List ℕ → FieldValue → Type 0
  Behind = SpellsBehind plain room Spells

  signed_sound : (kind : SignedKind) → IsSound (judge_signed_kind kind) Behind
  unfolding IsSound
  signed_sound kind =
      map_spelled (signed_value kind) (judge_signed (signed_width kind))
      (SpellsSigned (signed_width kind)) Behind (signed_exact (signed_width kind)) (λ bytes n h. h)

  unsigned_sound : (kind : UnsignedKind) → IsSound (judge_unsigned_kind kind) Behind
  unfolding IsSound
  unsigned_sound kind =
      map_spelled (unsigned_value kind) (judge_number (unsigned_width kind))
      (SpellsNumber (unsigned_width kind)) Behind (number_exact (unsigned_width kind)) (λ bytes n h. h)

  bytes_sound : (kind : BytesKind) → IsSound (judge_bytes_kind kind) Behind
  unfolding IsSound
  bytes_sound kind = map_spelled (bytes_value kind) judge_long_string SpellsLongString Behind long_string_exact (λ bytes s h. h)

  behind_sound : (nest : Option (Judge FieldValue)) → IsNested room nest Spells → (t : FieldTag) → IsSound (judge_behind nest t) Behind
  unfolding judge_behind IsNested IsSound
  behind_sound nest ok tag.Boolean = map_spelled boolean_value judge_boolean (SpellsBoolean plain) Behind boolean_laws.exact (λ bytes b h. h)
  behind_sound nest ok tag.ShortShortInt = signed_sound short_short_int
  behind_sound nest ok tag.ShortShortUInt = unsigned_sound short_short_uint
  behind_sound nest ok tag.ShortInt = signed_sound short_int
  behind_sound nest ok tag.ShortUInt = unsigned_sound short_uint
  behind_sound nest ok tag.LongInt = signed_sound long_int
  behind_sound nest ok tag.LongUInt = unsigned_sound long_uint
  behind_sound nest ok tag.LongLongInt = signed_sound long_long_int
  behind_sound nest ok tag.Float = unsigned_sound float
  behind_sound nest ok tag.Double = unsigned_sound double
  behind_sound nest ok tag.DecimalValue = map_spelled (λ d. decimal_value d.0 d.1) judge_decimal SpellsDecimal Behind decimal_exact (λ bytes d h. h)
  behind_sound nest ok tag.LongString = bytes_sound long_string
  behind_sound None ok tag.FieldArray = λ bytes v n fits h. cc
  behind_sound (Some value) ok tag.FieldArray =
      let deep = ok value refl in
      map_spelled (λ vs. array_value (values_of vs)) (judge_array value) (SpellsArray Spells) Behind (array_exact value Spells deep.1 some)
      (λ bytes vs h. let P : List FieldValue → Type 0 = λ ws. SpellsArray Spells bytes ws in (deep.0, subst P (sym (items-values_of vs)) h))
  behind_sound nest ok tag.Timestamp = unsigned_sound timestamp
  behind_sound None ok tag.FieldTable = λ bytes v n fits h. cc
  behind_sound (Some value) ok tag.FieldTable =
      let deep = ok value refl in
      map_spelled (λ es. table_value (entries_of es)) (judge_table value) (SpellsTable plain Spells) Behind (table_exact value Spells deep.1 some)
      (λ bytes es h. let P : List (List ℕ × FieldValue) → Type 0 = λ fs. SpellsTable plain Spells bytes fs in (deep.0, subst P (sym (pairs-entries_of es)) h))
  behind_sound nest ok tag.ByteArray = bytes_sound byte_array
  behind_sound nest ok tag.Void = λ bytes v n fits h.
      let count : 0 ≡ n = count_took void_value v 0 n h in
      let is : void_value ≡ v = value_took void_value v 0 n h in
      let P : ℕ → Type 0 = λ m. Behind (take m bytes) v in
      let Q : FieldValue → Type 0 = λ x. Behind [] x in
      (subst P count (subst Q is refl), omega (arith, count))

  -- there is room for what is nested
  Holds : Option (Judge FieldValue) → Type 0
  Holds nest = 0 < room → (value : Judge FieldValue) × (nest ≡ Some value) × IsExact value Spells

  behind_taken : (nest : Option (Judge FieldValue)) → Holds nest → (bytes rest : List ℕ) (v : FieldValue)
      → Behind bytes v → judge_behind nest (tag_of v) (bytes ++ rest) ≡ took v (length bytes)
  unfolding judge_behind Holds
  behind_taken nest ok bytes rest (boolean_value b) h = map_taken boolean_value judge_boolean (SpellsBoolean plain) boolean_laws.exact bytes rest b h
  behind_taken nest ok bytes rest (signed_value short_short_int n) h =
      map_taken (signed_value short_short_int) (judge_signed bytes1) (SpellsSigned bytes1) (signed_exact bytes1) bytes rest n h
  behind_taken nest ok bytes rest (signed_value short_int n) h =
      map_taken (signed_value short_int) (judge_signed (signed_width short_int))
      (SpellsSigned (signed_width short_int)) (signed_exact (signed_width short_int)) bytes rest n h
  behind_taken nest ok bytes rest (signed_value long_int n) h =
      map_taken (signed_value long_int) (judge_signed (signed_width long_int))
      (SpellsSigned (signed_width long_int)) (signed_exact (signed_width long_int)) bytes rest n h
  behind_taken nest ok bytes rest (signed_value long_long_int n) h =
      map_taken (signed_value long_long_int) (judge_signed (signed_width long_long_int))
      (SpellsSigned (signed_width long_long_int)) (signed_exact (signed_width long_long_int)) bytes rest n h
  behind_taken nest ok bytes rest (unsigned_value short_short_uint n) h =
      map_taken (unsigned_value short_short_uint) (judge_number bytes1) (SpellsNumber bytes1) (number_exact bytes1) bytes rest n h
  behind_taken nest ok bytes rest (unsigned_value short_uint n) h =
      map_taken (unsigned_value short_uint) (judge_number (unsigned_width short_uint))
      (SpellsNumber (unsigned_width short_uint)) (number_exact (unsigned_width short_uint)) bytes rest n h
  behind_taken nest ok bytes rest (unsigned_value long_uint n) h =
      map_taken (unsigned_value long_uint) (judge_number bytes4) (SpellsNumber bytes4) (number_exact bytes4) bytes rest n h
  behind_taken nest ok bytes rest (unsigned_value float n) h =
      map_taken (unsigned_value float) (judge_number bytes4) (SpellsNumber bytes4) (number_exact bytes4) bytes rest n h
  behind_taken nest ok bytes rest (unsigned_value double n) h =
      map_taken (unsigned_value double) (judge_number (unsigned_width double))
      (SpellsNumber (unsigned_width double)) (number_exact (unsigned_width double)) bytes rest n h
  behind_taken nest ok bytes rest (unsigned_value timestamp n) h =
      map_taken (unsigned_value timestamp) (judge_number (unsigned_width timestamp))
      (SpellsNumber (unsigned_width timestamp)) (number_exact (unsigned_width timestamp)) bytes rest n h
  behind_taken nest ok bytes rest (decimal_value scale n) h =
      map_taken (λ d. decimal_value d.0 d.1) judge_decimal SpellsDecimal decimal_exact bytes rest (scale, n) h
  behind_taken nest ok bytes rest (bytes_value long_string s) h =
      map_taken (bytes_value long_string) judge_long_string SpellsLongString long_string_exact bytes rest s h
  behind_taken nest ok bytes rest (bytes_value byte_array s) h =
      map_taken (bytes_value byte_array) judge_long_string SpellsLongString long_string_exact bytes rest s h
  behind_taken nest ok bytes rest (array_value vs) h =
      let deep = ok h.0 in
      ap (λ o. judge_behind o tag.FieldArray (bytes ++ rest)) deep.1
      ∙ map_taken (λ ws. array_value (values_of ws)) (judge_array deep.0) (SpellsArray Spells) (array_exact deep.0 Spells deep.2 some) bytes rest (items vs) h.1
      ∙ ap (λ ws. took (array_value ws) (length bytes)) (values_of-items vs)
  behind_taken nest ok bytes rest (table_value es) h =
      let deep = ok h.0 in
      ap (λ o. judge_behind o tag.FieldTable (bytes ++ rest)) deep.1
      ∙ map_taken (λ fs. table_value (entries_of fs)) (judge_table deep.0)
      (SpellsTable plain Spells) (table_exact deep.0 Spells deep.2 some) bytes rest (pairs es) h.1
      ∙ ap (λ fs. took (table_value fs) (length bytes)) (entries_of-pairs es)
  behind_taken nest ok bytes rest void_value h = ap (took void_value) (sym (ap length h))

  -- ---- with the tag

  known_sound : (nest : Option (Judge FieldValue)) → IsNested room nest Spells → (o : Option FieldTag) (byte : ℕ) → tag_at byte ≡ o
      → (bytes : List ℕ) (v : FieldValue) (n : ℕ) → IsBytes bytes → behind_tag nest o bytes ≡ took v n
      → SpellsTagged plain Behind (take n (byte ∷ bytes)) v × (n ≤ length (byte ∷ bytes))
  unfolding IsSound
  known_sound nest ok None byte is bytes v n fits h = cc
  known_sound nest ok (Some t) byte is bytes v n fits h =
      let found = bind_took (judge_behind nest t bytes) _ v n h in
      let one = behind_sound nest ok t bytes found.0 found.1 fits found.2 in
      let kind = tag_behind nest t bytes found.0 found.1 found.2 in
      let count : suc found.1 ≡ n = omega (arith, count_took _ v (1 + found.1) n found.3) in
      let P : FieldTag → Type 0 = λ k. SpellsTag plain byte k in
      let Q : FieldValue → Type 0 = λ x. SpellsTagged plain Behind (take n (byte ∷ bytes)) x in (
        subst Q (value_took _ v _ n found.3) (record {
          byte = byte;
          behind = take found.1 bytes;
          bytes_are = ap (λ m. take m (byte ∷ bytes)) (sym count);
          tag_is = subst P (sym kind) (tag_spelled byte t is);
          value_is = one.0;
        }),
        omega (arith, one.1, count),
      )

  tagged_spelled : (nest : Option (Judge FieldValue)) → IsNested room nest Spells → (bytes : List ℕ) (v : FieldValue) (n : ℕ)
      → IsBytes bytes → judge_tagged nest bytes ≡ took v n → SpellsTagged plain Behind (take n bytes) v × (n ≤ length bytes)
  unfolding judge_tagged
  tagged_spelled nest ok [] v n fits h = cc
  tagged_spelled nest ok (byte ∷ bytes) v n fits h = known_sound nest ok (tag_at byte) byte refl bytes v n (λ i. fits (suc i)) h

  tagged_taken : (nest : Option (Judge FieldValue)) → Holds nest → (bytes rest : List ℕ) (v : FieldValue)
      → SpellsTagged plain Behind bytes v → judge_tagged nest (bytes ++ rest) ≡ took v (length bytes)
  unfolding judge_tagged
  tagged_taken nest ok bytes rest v h =
      ap (λ bs. judge_tagged nest (bs ++ rest)) h.bytes_are ∙ ap (λ t. behind_tag nest t (h.behind ++ rest)) (tag_read h.byte (tag_of v) h.tag_is)
      ∙ ap (λ j. j >>= λ x. took x.0 (1 + x.1)) (behind_taken nest ok h.behind rest v h.value_is) ∙ ap (took v) (sym (ap length h.bytes_are ∙ omega arith))

  tagged_exact : (nest : Option (Judge FieldValue)) → IsNested room nest Spells → Holds nest → IsExact (judge_tagged nest) (SpellsTagged plain Behind)
  tagged_exact nest sound holds = record { spelled = tagged_spelled nest sound; taken = tagged_taken nest holds }

tagged_some : (level : Level) (Spells : List ℕ → FieldValue → Type 0) → HasBytes (SpellsTagged level Spells)
tagged_some level Spells bytes v h = omega (arith, ap length h.bytes_are)

-- The encoding of a value has at least one byte, its tag.
pub value_some : (level : Level) (room : ℕ) → HasBytes (SpellsValue level room)
unfolding SpellsValue
value_some level zero = tagged_some level _
value_some level (suc room) = tagged_some level _

-- Decoding a value takes exactly what encodes it at level plain.
pub value_exact : (room : ℕ) → IsExact (judge_value room) (SpellsValue plain room)
unfolding judge_value nested SpellsValue IsNested Holds
value_exact zero = tagged_exact 0 (λ _ _. ⊥) (λ bytes v h. absurd h) None (λ value none. cc) (λ up. absurd (omega arith))
value_exact (suc room) = tagged_exact (suc room) (SpellsValue plain room) (value_some plain room) (Some (judge_value room)) (λ value is.
    let e : judge_value room ≡ value = cc in
    let P : Judge FieldValue → Type 0 = λ j. IsExact j (SpellsValue plain room) in
    (omega arith, subst P e (value_exact room))) (λ up. (judge_value room, refl, value_exact room))
