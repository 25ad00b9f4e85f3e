-- What stands after a tag, and with it.
use Rattle.std.proofs.Common.{◌≡◌, ℕ, suc, ◌+◌, ◌-◌, ◌<◌, ◌≤◌, ◌↔◌, nat_eq, Bool, true, ◌&&◌, IsTrue, List, [], ◌∷◌, ◌++◌, length, get_or, take, drop}
use Rattle.std.proofs.Common.{Option, Some, None, Result, Ok, Err, refl, sym, ap, ap₂, subst, ◌∙◌, arith}
use Rattle.std.proofs.lemmas.Bool.{le-ltb, lt-ltb}
use Rattle.std.proofs.lemmas.Bool.Decides.{nat_tests}
use Rattle.std.proofs.lemmas.List.{length-take-le}
use Rattle.std.proofs.Math.Seq.{take-add}
use Rattle.std.specs.Int.{from_be_bytes, cast_signed}
use Rattle.amqp_types.specs.Judging.{Judged, Judge, took, past, fault, too_deep, unknown_tag, ◌>>=◌, IsBytes}
use Rattle.amqp_types.specs.Sequences.{judge_map}
use Rattle.amqp_types.specs.Answers.{AnswersFully}
use Rattle.amqp_types.specs.Numbers.{NumberWidth, bytes1, bytes4, width_of, byte_count, judge_number, SpellsNumber}
use Rattle.amqp_types.specs.Booleans.{judge_boolean}
use Rattle.amqp_types.specs.Strings.{short_string_bytes, judge_short_string, judge_long_string}
use Rattle.amqp_types.specs.Values.{FieldValue, SignedKind, UnsignedKind, BytesKind, short_short_int, short_int, long_int, long_long_int}
use Rattle.amqp_types.specs.Values.{short_short_uint, short_uint, long_uint, float, double, timestamp, long_string, byte_array, boolean_value, signed_value}
use Rattle.amqp_types.specs.Values.{unsigned_value, decimal_value, bytes_value, array_value, table_value, void_value, values_of, entries_of}
use Rattle.amqp_types.specs.ValueBytes.{signed_width, unsigned_width, value_bytes, tagged_bytes}
use Rattle.amqp_types.specs.Tags.{tag_at, tag_byte, tag_of}
use Rattle.amqp_types.specs.ValueJudging.{judge_entry, judge_array, judge_table, judge_decimal, judge_signed_kind, judge_unsigned_kind, judge_bytes_kind}
use Rattle.amqp_types.specs.ValueJudging.{judge_behind, behind_tag, judge_tagged, nested, judge_value}
use Rattle.amqp_types.specs.declared.tag.FieldTag.{FieldTag}
use Rattle.amqp_types.specs.declared.tag.FieldTag.TheVariants as tag
use Rattle.amqp_types.specs.declared.errors.ParserError.{ParserError}
use Rattle.amqp_types.proofs.Bytes.{IsBytes-drop}
use Rattle.amqp_types.proofs.FormLaws.{signed_only}
use Rattle.amqp_types.proofs.Numbers.{number_exact}
use Rattle.amqp_types.proofs.Texts.{short_string_exact, long_string_exact}
use Rattle.amqp_laws.proofs.Filling.{nested_none, nested_more}
use Rattle.amqp_canonical.specs.declared.values.Layout.TheVariants as layout
use Rattle.amqp_canonical.specs.declared.values.ValueJudgement.{ValueJudgement}
use Rattle.amqp_canonical.specs.Judgements.{layout_at, IsCanonicalBoolean, IsCanonicalAfterTag, IsCanonicalValue, IsCanonicalArray, IsCanonicalTable}
use Rattle.amqp_canonical.specs.Judgements.{DecodesAs, DecodesAsEntry, Judges}
use Rattle.amqp_canonical.proofs.Refusing.{Fails, fully, fails_next}
use Rattle.amqp_canonical.proofs.Children.{decided_as, both_decided, split_two, value_few}
use Rattle.amqp_laws.proofs.Exactly.{tag_behind}

-- ---- which tag a value has that was read after a tag

-- ---- what the tag alone measures

-- something is taken in so many bytes, whatever they are, and they are its canonical bytes
abbrev pub IsTaken : List ℕ → ℕ → Judged FieldValue → Type 0
IsTaken bytes n judged = (v : FieldValue) × (judged ≡ took v n) × (take n bytes ≡ value_bytes v)

-- A number whose bytes are not all there is incomplete.
pub number_past : (width : NumberWidth) (bytes : List ℕ) → length bytes < byte_count width → judge_number width bytes ≡ past
number_past width bytes short = rw (lt-ltb (length bytes) (byte_count width) short) refl

-- Decoding a number whose bytes are all there takes them, with the first byte as the highest.
pub number_took : (width : NumberWidth) (bytes : List ℕ) → byte_count width ≤ length bytes
    → judge_number width bytes ≡ took (from_be_bytes (width_of width) (take (byte_count width) bytes)) (byte_count width)
number_took width bytes long = rw (le-ltb (length bytes) (byte_count width) long) refl

-- so many bytes are taken, and are canonical, or not all of them are there
record FixedSize (bytes : List ℕ) (n : ℕ) (judged : Judged FieldValue) : Type 0 where
  is_past : length bytes < n → judged ≡ past
  is_taken : IsBytes bytes → n ≤ length bytes → IsTaken bytes n judged

-- a number, of which a value is made
number_fixed : (width : NumberWidth) (bytes : List ℕ) (make : ℕ → FieldValue) (next : Judged ℕ → Judged FieldValue) → next past ≡ past
    → ((m n : ℕ) → next (took m n) ≡ took (make m) n) → ((bs : List ℕ) (m : ℕ) → SpellsNumber width bs m → bs ≡ value_bytes (make m))
    → FixedSize bytes (byte_count width) (next (judge_number width bytes))
number_fixed width bytes make next none some only =
    let n = byte_count width in
    let bits : ℕ = from_be_bytes (width_of width) (take n bytes) in
    record {
      is_past = λ short. ap next (number_past width bytes short) ∙ none;
      is_taken = λ fits long.
          let is = number_took width bytes long in
          (make bits, ap next is ∙ some bits n, only (take n bytes) bits ((number_exact width).spelled bytes bits n fits is).0);
    }

signed_fixed : (kind : SignedKind) (bytes : List ℕ) → FixedSize bytes (byte_count (signed_width kind)) (judge_signed_kind kind bytes)
signed_fixed kind bytes =
    let width = signed_width kind in
    let cast = cast_signed (width_of width) in
    number_fixed width bytes (λ m. signed_value kind (cast m)) (λ j. (j >>= λ m. took (cast m.0) m.1) >>= λ x. took (signed_value kind x.0) x.1)
    refl (λ m n. refl) (λ bs m one. signed_only width bs (cast m) (record { bits = m; spelled = one; means = refl }))

unsigned_fixed : (kind : UnsignedKind) (bytes : List ℕ) → FixedSize bytes (byte_count (unsigned_width kind)) (judge_unsigned_kind kind bytes)
unsigned_fixed kind bytes =
    number_fixed (unsigned_width kind) bytes (unsigned_value kind) (λ j. j >>= λ x. took (unsigned_value kind x.0) x.1)
    refl (λ m n. refl) (λ bs m one. one.bytes_are)

abbrev judge_decimal_value : Judge FieldValue
judge_decimal_value bytes = judge_map (λ (d : ℕ × ℕ). decimal_value d.0 d.1) judge_decimal bytes

-- a scale and a number
decimal_fixed : (bytes : List ℕ) → FixedSize bytes 5 (judge_decimal_value bytes)
unfolding judge_decimal
decimal_fixed [] = record { is_past = λ short. refl; is_taken = λ fits long. absurd (omega (arith, long)) }
decimal_fixed (b ∷ rest) =
    let bytes = b ∷ rest in
    let scale : ℕ = from_be_bytes (width_of bytes1) (take 1 bytes) in
    let number : ℕ = from_be_bytes (width_of bytes4) (take 4 rest) in
    let one = number_took bytes1 bytes (omega arith) in
    record {
      is_past = λ short. rw (one, number_past bytes4 rest (omega (arith, short)));
      is_taken = λ fits long.
          let two = number_took bytes4 rest (omega (arith, long)) in
          let first = (number_exact bytes1).spelled bytes scale 1 fits one in
          let second = (number_exact bytes4).spelled rest number 4 (IsBytes-drop 1 bytes fits) two in (
            decimal_value scale number,
            rw (one, two),
            take-add 1 4 bytes ∙ ap₂ (λ x y. x ++ y) first.0.bytes_are second.0.bytes_are,
          );
    }

sized : {bytes : List ℕ} {judged : Judged FieldValue} {k n : ℕ} → FixedSize bytes k judged → layout.Fixed k ≡ layout.Fixed n → FixedSize bytes n judged
sized {bytes = bytes} {judged = judged} {k = k} {n = n} h is = let same : k ≡ n = cc in subst (λ m. FixedSize bytes m judged) same h

fixed_size : (nest : Option (Judge FieldValue)) (t : FieldTag) (bytes : List ℕ) (n : ℕ)
    → layout_at t ≡ layout.Fixed n → FixedSize bytes n (judge_behind nest t bytes)
unfolding judge_behind
fixed_size nest tag.ShortShortInt bytes n is = sized (signed_fixed short_short_int bytes) is
fixed_size nest tag.ShortShortUInt bytes n is = sized (unsigned_fixed short_short_uint bytes) is
fixed_size nest tag.ShortInt bytes n is = sized (signed_fixed short_int bytes) is
fixed_size nest tag.ShortUInt bytes n is = sized (unsigned_fixed short_uint bytes) is
fixed_size nest tag.LongInt bytes n is = sized (signed_fixed long_int bytes) is
fixed_size nest tag.LongUInt bytes n is = sized (unsigned_fixed long_uint bytes) is
fixed_size nest tag.LongLongInt bytes n is = sized (signed_fixed long_long_int bytes) is
fixed_size nest tag.Float bytes n is = sized (unsigned_fixed float bytes) is
fixed_size nest tag.Double bytes n is = sized (unsigned_fixed double bytes) is
fixed_size nest tag.DecimalValue bytes n is = sized (decimal_fixed bytes) is
fixed_size nest tag.Timestamp bytes n is = sized (unsigned_fixed timestamp bytes) is
fixed_size nest tag.Void bytes n is =
    sized {k = 0} (record { is_past = λ short. absurd (omega (arith, short)); is_taken = λ fits long. (void_value, refl, refl) }) is
fixed_size nest t bytes n is = absurd cc

-- After a tag of fixed size, a value whose bytes are not all there is incomplete.
pub fixed_past : (nest : Option (Judge FieldValue)) (t : FieldTag) (bytes : List ℕ) (n : ℕ)
    → layout_at t ≡ layout.Fixed n → length bytes < n → judge_behind nest t bytes ≡ past
fixed_past nest t bytes n is = (fixed_size nest t bytes n is).is_past

-- After a tag of fixed size, the bytes of the value are taken, and are its canonical bytes.
pub fixed_took : (nest : Option (Judge FieldValue)) (t : FieldTag) (bytes : List ℕ) (n : ℕ) → IsBytes bytes
    → layout_at t ≡ layout.Fixed n → n ≤ length bytes → IsTaken bytes n (judge_behind nest t bytes)
fixed_took nest t bytes n fits is = (fixed_size nest t bytes n is).is_taken fits

-- What is taken together with its canonical bytes is decoded, and canonical.
pub taken : (bytes : List ℕ) (n : ℕ) (j : Judged FieldValue) → IsTaken bytes n j → DecodesAs IsCanonicalAfterTag (record { used = n; canonical = true }) bytes j
taken bytes n j h = record { thing = h.0; is = h.1; decides = (λ t. h.2, λ e. refl) }

-- ---- strings

counted_kind : (nest : Option (Judge FieldValue)) (t : FieldTag) (bytes : List ℕ)
    → layout_at t ≡ layout.Counted → (kind : BytesKind) × (judge_behind nest t bytes ≡ judge_bytes_kind kind bytes)
unfolding judge_behind
counted_kind nest tag.LongString bytes is = (long_string, refl)
counted_kind nest tag.ByteArray bytes is = (byte_array, refl)
counted_kind nest t bytes is = absurd cc

-- After the tag of a string or a byte array, what a long string takes is taken, and its bytes are canonical.
pub counted_took : (nest : Option (Judge FieldValue)) (t : FieldTag) (bytes content : List ℕ) (n : ℕ) → IsBytes bytes
    → layout_at t ≡ layout.Counted → judge_long_string bytes ≡ took content n → IsTaken bytes n (judge_behind nest t bytes)
counted_took nest t bytes content n fits is h =
    let kind = counted_kind nest t bytes is in
    let one = long_string_exact.spelled bytes content n fits h in
    (bytes_value kind.0 content, rw (kind.1, h), one.0.bytes_are)

-- After the tag of a string or a byte array, the error of decoding a long string is the error.
pub counted_fails : {A : Type 0} (nest : Option (Judge FieldValue)) (t : FieldTag) (bytes : List ℕ) (view : A → List ℕ) (e : ParserError)
    → layout_at t ≡ layout.Counted → AnswersFully view (Err e) (judge_long_string bytes) → Fails e (judge_behind nest t bytes)
counted_fails nest t bytes view e is h =
    let kind = counted_kind nest t bytes is in
    subst (λ j. Fails e j) (sym kind.1) (fails_next _ _ _ (fully view _ _ h))

-- ---- arrays and tables, made of what fills them

pub judges_made : {A : Type 0} (make : A → FieldValue) (bytes : List ℕ) (r : Result ValueJudgement ParserError) (j : Judged A)
    → Judges (λ bs x. IsCanonicalAfterTag bs (make x)) bytes r j → Judges IsCanonicalAfterTag bytes r (j >>= λ x. took (make x.0) x.1)
judges_made make bytes (Ok w) j h = record { thing = make h.thing; is = rw h.is; decides = h.decides }
judges_made make bytes (Err e) j h = fails_next _ _ _ h

-- After the tag of a boolean, what is said of the truth value is said of the value.
pub boolean_behind : (nest : Option (Judge FieldValue)) (t : FieldTag) (bytes : List ℕ) (r : Result ValueJudgement ParserError)
    → layout_at t ≡ layout.OneBoolean → Judges IsCanonicalBoolean bytes r (judge_boolean bytes) → Judges IsCanonicalAfterTag bytes r (judge_behind nest t bytes)
unfolding judge_behind
boolean_behind nest tag.Boolean bytes r is h = judges_made boolean_value bytes r _ h
boolean_behind nest t bytes r is h = absurd cc

-- After the tag of an array, where there is room for nesting, what is said of the array is said of the value.
pub array_behind : (room : ℕ) (t : FieldTag) (bytes : List ℕ) (r : Result ValueJudgement ParserError) → layout_at t ≡ layout.Values → 0 < room
    → Judges IsCanonicalArray bytes r (judge_array (judge_value (room - 1)) bytes) → Judges IsCanonicalAfterTag bytes r (judge_behind (nested room) t bytes)
unfolding judge_behind
array_behind room tag.FieldArray bytes r is up h =
    rw (nested_more room up) (judges_made (λ vs. array_value (values_of vs)) bytes r _ h)
array_behind room t bytes r is up h = absurd cc

-- After the tag of a table, where there is room for nesting, what is said of the table is said of the value.
pub table_behind : (room : ℕ) (t : FieldTag) (bytes : List ℕ) (r : Result ValueJudgement ParserError) → layout_at t ≡ layout.Entries → 0 < room
    → Judges IsCanonicalTable bytes r (judge_table (judge_value (room - 1)) bytes) → Judges IsCanonicalAfterTag bytes r (judge_behind (nested room) t bytes)
unfolding judge_behind
table_behind room tag.FieldTable bytes r is up h =
    rw (nested_more room up) (judges_made (λ es. table_value (entries_of es)) bytes r _ h)
table_behind room t bytes r is up h = absurd cc

-- An array is too deep where no room for nesting is left.
pub array_deep : (room : ℕ) (t : FieldTag) (bytes : List ℕ) → layout_at t ≡ layout.Values → room ≡ 0 → judge_behind (nested room) t bytes ≡ fault too_deep
unfolding judge_behind
array_deep room tag.FieldArray bytes is none = rw (nested_none room none)
array_deep room t bytes is none = absurd cc

-- A table is too deep where no room for nesting is left.
pub table_deep : (room : ℕ) (t : FieldTag) (bytes : List ℕ) → layout_at t ≡ layout.Entries → room ≡ 0 → judge_behind (nested room) t bytes ≡ fault too_deep
unfolding judge_behind
table_deep room tag.FieldTable bytes is none = rw (nested_none room none)
table_deep room t bytes is none = absurd cc

-- ---- with the tag

-- The test of equal numbers is true exactly where the numbers are equal.
pub same_decided : (a b : ℕ) → IsTrue (nat_eq a b) ↔ (a ≡ b)
same_decided a b = (λ t. grind (arith, nat_tests), λ e. grind (arith, nat_tests))

-- A value is incomplete where no byte is left for its tag.
pub value_empty : (room : ℕ) (bytes : List ℕ) → length bytes < 1 → judge_value room bytes ≡ past
unfolding judge_value judge_tagged
value_empty room [] h = refl
value_empty room (b ∷ bytes) h = absurd (omega (arith, h))

-- What decoding says of a value with a tag is what it says after the tag of its first byte.
pub judged_tag : (room : ℕ) (bytes : List ℕ) (o : Option FieldTag) → 0 < length bytes
    → tag_at (get_or bytes 0 0) ≡ o → judge_value room bytes ≡ behind_tag (nested room) o (drop 1 bytes)
unfolding judge_value judge_tagged
judged_tag room [] o some is = absurd (omega (arith, some))
judged_tag room (b ∷ bytes) o some is = ap (λ p. behind_tag (nested room) p bytes) is

-- A first byte that is no tag is refused as an unknown tag.
pub value_unknown : (room : ℕ) (bytes : List ℕ) → 0 < length bytes → tag_at (get_or bytes 0 0) ≡ None → judge_value room bytes ≡ fault unknown_tag
value_unknown room bytes some is = judged_tag room bytes None some is

tagged_decided : (bytes : List ℕ) (v : FieldValue) (t : FieldTag) (n : ℕ) → 0 < length bytes → tag_of v ≡ t
    → ((take n (drop 1 bytes) ≡ value_bytes v) × (tag_byte t ≡ get_or bytes 0 0)) ↔ (take (suc n) bytes ≡ tagged_bytes v)
tagged_decided [] v t n some kind = absurd (omega (arith, some))
tagged_decided (b ∷ bytes) v t n some kind =
    let same : tag_byte (tag_of v) ≡ tag_byte t = ap tag_byte kind in (
      λ p. ap₂ (λ x xs. x ∷ xs) (sym (same ∙ p.1)) p.0,
      λ q.
          let first : b ≡ tag_byte (tag_of v) = cc in
          let others : take n bytes ≡ value_bytes v = cc in
          (others, sym (first ∙ same)),
    )

-- A value takes its tag and what stands after it, and is canonical exactly where the tag byte is the one that is written and the rest is.
pub value_took_at : (room : ℕ) (bytes : List ℕ) (t : FieldTag) (w : ValueJudgement) (d : Bool)
    → 0 < length bytes → tag_at (get_or bytes 0 0) ≡ Some t → IsTrue d ↔ (tag_byte t ≡ get_or bytes 0 0)
    → DecodesAs IsCanonicalAfterTag w (drop 1 bytes) (judge_behind (nested room) t (drop 1 bytes))
    → DecodesAs IsCanonicalValue (record { used = 1 + w.used; canonical = w.canonical && d }) bytes (judge_value room bytes)
value_took_at room bytes t w d some is same h =
    let kind = tag_behind (nested room) t (drop 1 bytes) h.thing w.used h.is in
    let more : suc w.used ≡ 1 + w.used = omega arith in
    let both = tagged_decided bytes h.thing t w.used some kind in
    record {
      thing = h.thing;
      is = rw (judged_tag room bytes (Some t) some is, h.is);
      decides = subst (λ k. IsTrue (w.canonical && d) ↔ IsCanonicalValue (take k bytes) h.thing) more (both_decided h.decides same both);
    }

-- ---- a key and a value

-- An entry takes its key and its value, and is canonical exactly where its value is.
pub entry_took : (room : ℕ) (bytes text key : List ℕ) (n : ℕ) (w : ValueJudgement) → IsBytes bytes → judge_short_string bytes ≡ took text n
    → key ≡ text → DecodesAs IsCanonicalValue w (drop n bytes) (judge_value room (drop n bytes)) → w.used ≤ length (drop n bytes)
    → DecodesAsEntry (record { used = n + w.used; canonical = w.canonical }) key bytes (judge_entry (judge_value room) bytes)
unfolding judge_entry
entry_took room bytes text key n w fits is same h long =
    let one = short_string_exact.spelled bytes text n fits is in
    let front : take n bytes ≡ short_string_bytes key = one.0.bytes_are ∙ ap short_string_bytes (sym same) in
    let behind = drop n bytes in
    let few = value_few _ _ _ _ (IsBytes-drop n bytes fits) h.is in
    record {
      value = h.thing;
      is = rw (is, h.is, same);
      decides = decided_as _ _ _ h.decides (λ e. take-add n w.used bytes ∙ ap₂ (λ a b. a ++ b) front e) (λ q.
          let two =
          split_two (take n bytes) (take w.used behind) (short_string_bytes key) (tagged_bytes h.thing)
          (sym (take-add n w.used bytes) ∙ q) (omega (arith, ap length front)) (omega (arith, few, length-take-le w.used behind long)) in
          two.1);
    }
