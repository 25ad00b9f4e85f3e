-- What one field holds, decoded at every level.
use Rattle.std.proofs.Common.{◌≡◌, ℕ, ◌/◌, ◌^◌, ◌<◌, ◌≤◌, ◌↔◌, nat_eq, Bool, true, false, true≢false, IsTrue, List, [], ◌∷◌, length, get_or, take, map, Result}
use Rattle.std.proofs.Common.{Ok, Err, refl, sym, ap, subst, ◌∙◌, arith}
use Rattle.std.proofs.lemmas.Bool.Decides.{nat_tests}
use Rattle.std.proofs.lemmas.Nat.{pow_pos}
use Rattle.std.proofs.Math.Nat.{pow-le-pow_right, div-lt_iff_lt-mul}
use Rattle.std.specs.Cmp.Lexicographic.{pointwise, told_text}
use Rattle.std.specs.Int.{from_be_bytes}
use Rattle.std.specs.Result.{IsErrAnd}
use Rattle.amqp_types.specs.Levels.{Level, plain, tidy, strict}
use Rattle.amqp_types.specs.Judging.{Judge, Judged, IsExact, took, past, IsBytes, ◌>>=◌}
use Rattle.amqp_types.specs.Answers.{AnswersFully}
use Rattle.amqp_types.specs.Numbers.{NumberWidth, bytes2, width_of, byte_count, number_limit, judge_number, number_bytes, SpellsNumber}
use Rattle.amqp_types.specs.Flags.{FromTidy, SpellsFlags, flags_from, judge_flags}
use Rattle.amqp_types.specs.Sequences.{SpellsMapped, judge_map}
use Rattle.amqp_types.specs.Strings.{judge_short_string, judge_long_string, SpellsShortString, SpellsLongString}
use Rattle.amqp_types.specs.ValueJudging.{judge_table, judge_value}
use Rattle.amqp_types.specs.Slots.{Item, number_item, flag_item, text_item, bytes_item, entries_item, Form, number_form, flags_form, short_string_form}
use Rattle.amqp_types.specs.Slots.{long_string_form, table_form}
use Rattle.amqp_types.specs.SlotJudging.{judge_form, judge_dropped}
use Rattle.amqp_types.specs.SlotBytes.{form_bytes}
use Rattle.amqp_types.specs.SlotSpelling.{SpellsForm, SpellsReserved}
use Rattle.amqp_types.specs.SlotLaws.{is_least}
use Rattle.amqp_types.specs.declared.errors.ParserError.{ParserError}
use Rattle.amqp_types.proofs.FormLaws.{numbers_lawful}
use Rattle.amqp_types.proofs.Numbers.{number_exact}
use Rattle.amqp_types.proofs.Texts.{short_string_exact, long_string_exact}
use Rattle.amqp_laws.proofs.PlainValues.{field_table_plain_is_tidy}
use Rattle.amqp_laws.proofs.SlotForms.{forms_lawful}
use Rattle.amqp_laws.proofs.SlotLaws.{reserved_lawful}
use Rattle.amqp_canonical.specs.declared.slots.Judgement.{Judgement}
use Rattle.amqp_canonical.specs.declared.values.ValueJudgement.{ValueJudgement}
use Rattle.amqp_canonical.specs.Judgements.{IsCanonicalTable, DecodesAs}
use Rattle.amqp_canonical.specs.Shapes.{is_constant, constant_of}
use Rattle.amqp_canonical.specs.SlotJudgements.{TakesTidily, JudgesTidily}
use Rattle.amqp_canonical.proofs.Refusing.{Fails, fully, fails_next}
use Rattle.amqp_canonical.proofs.Children.{decided_as}
use Rattle.amqp_canonical.proofs.AfterTag.{number_past, number_took}
use Rattle.amqp_canonical.proofs.Constants.{constant_put, constant_least}
use Rattle.amqp_canonical.proofs.Strict.{table_strict}

-- an error that `?` passes on
pub err_passed : {A : Type 0} (IsCanonical IsTidy : List ℕ → A → Type 0) (bytes : List ℕ) (r : Result Judgement ParserError) (e : ParserError) (j : Judged A)
    → IsErrAnd r (λ x. x ≡ e) → Fails e j → JudgesTidily IsCanonical IsTidy bytes r j
err_passed IsCanonical IsTidy bytes (Ok w) e j is h = absurd is
err_passed IsCanonical IsTidy bytes (Err x) e j is h = rw is h

-- what is taken at a level, form by form
abbrev Taken : Form → ℕ → Bool → Bool → List ℕ → Type 0
Taken form n canonical neat bytes =
    TakesTidily (SpellsForm strict form) (SpellsForm tidy form) (record { used = n; canonical = canonical; tidy = neat }) bytes (judge_form form bytes)

-- what is taken of a reserved field, as it was written or not
abbrev TakenReserved : Form → List Item → ℕ → Bool → List ℕ → Type 0
TakenReserved form constant n as_written bytes =
    TakesTidily (SpellsReserved strict form constant) (SpellsReserved tidy form constant)
    (record { used = n; canonical = as_written; tidy = as_written }) bytes (judge_dropped form bytes)

-- of what has one encoding
one_took : {A : Type 0} (form : Form) (make : A → Item) (judge : Judge A) (Spells : List ℕ → A → Type 0) → IsExact judge Spells
    → judge_form form ≡ judge_map (λ x. make x ∷ []) judge → ((level : Level) → SpellsMapped Spells (λ x. make x ∷ []) ≡ SpellsForm level form)
    → (bytes : List ℕ) (x : A) (n : ℕ) → IsBytes bytes → judge bytes ≡ took x n → Taken form n true true bytes
one_took form make judge Spells exact is same bytes x n fits h =
    let one = exact.spelled bytes x n fits h in
    let spelled : (level : Level) → SpellsForm level form (take n bytes) (make x ∷ []) = λ level.
    subst (λ S. S (take n bytes) (make x ∷ [])) (same level) (record { thing = x; spelled = one.0; made = refl }) in
    record {
      thing = make x ∷ [];
      is = ap (λ f. f bytes) is ∙ ap (λ j. j >>= λ y. took (make y.0 ∷ []) y.1) h;
      canonical = (λ t. spelled strict, λ s. refl);
      tidy = (λ t. spelled tidy, λ s. refl);
    }

number_taken : (width : NumberWidth) (bytes : List ℕ) (x n : ℕ) → IsBytes bytes → judge_number width bytes ≡ took x n
    → Taken (number_form width) n true true bytes
unfolding judge_form
number_taken width = one_took (number_form width) number_item (judge_number width) (SpellsNumber width) (number_exact width) refl (λ level. refl)

-- ---- numbers

-- A number as a field is incomplete where its bytes are not all there.
pub number_form_past : (width : NumberWidth) (bytes : List ℕ) (n : ℕ) → byte_count width ≡ n → length bytes < n → judge_form (number_form width) bytes ≡ past
unfolding judge_form
number_form_past width bytes n count short = ap (λ j. j >>= λ x. took (number_item x.0 ∷ []) x.1) (number_past width bytes (omega (arith, count, short)))

-- A number as a field takes the bytes of its width, and is canonical and tidy.
pub number_form_took : (width : NumberWidth) (bytes : List ℕ) (n : ℕ) → IsBytes bytes
    → byte_count width ≡ n → n ≤ length bytes → Taken (number_form width) n true true bytes
number_form_took width bytes n fits count long =
    rw (← count) (number_taken width bytes _ (byte_count width) fits (number_took width bytes (omega (arith, count, long))))

-- ---- strings

-- An error in a short string is the error of the field.
pub short_form_fails : {A : Type 0} (bytes : List ℕ) (view : A → List ℕ) (e : ParserError)
    → AnswersFully view (Err e) (judge_short_string bytes) → Fails e (judge_form short_string_form bytes)
unfolding judge_form
short_form_fails bytes view e h = fails_next e (judge_short_string bytes) _ (fully view e (judge_short_string bytes) h)

-- A short string as a field takes what the string takes, and is canonical and tidy.
pub short_form_took : (bytes text : List ℕ) (n : ℕ) → IsBytes bytes → judge_short_string bytes ≡ took text n → Taken short_string_form n true true bytes
unfolding judge_form
short_form_took = one_took short_string_form text_item judge_short_string SpellsShortString short_string_exact refl (λ level. refl)

-- An error in a long string is the error of the field.
pub long_form_fails : {A : Type 0} (bytes : List ℕ) (view : A → List ℕ) (e : ParserError)
    → AnswersFully view (Err e) (judge_long_string bytes) → Fails e (judge_form long_string_form bytes)
unfolding judge_form
long_form_fails bytes view e h = fails_next e (judge_long_string bytes) _ (fully view e (judge_long_string bytes) h)

-- A long string as a field takes what the string takes, and is canonical and tidy.
pub long_form_took : (bytes content : List ℕ) (n : ℕ) → IsBytes bytes → judge_long_string bytes ≡ took content n → Taken long_string_form n true true bytes
unfolding judge_form
long_form_took = one_took long_string_form bytes_item judge_long_string SpellsLongString long_string_exact refl (λ level. refl)

-- ---- flags

-- Flags are incomplete where no byte is left.
pub flags_form_past : (count : ℕ) (bytes : List ℕ) → length bytes < 1 → judge_form (flags_form count) bytes ≡ past
unfolding judge_form judge_flags
flags_form_past count [] h = refl
flags_form_past count (b ∷ bytes) h = absurd (omega (arith, h))

flags_level : (level : Level) (count b : ℕ) (fits : Bool) → b < 256 → IsTrue fits ↔ (b < 2 ^ count)
    → ((x : ℕ) → FromTidy level (x < 2 ^ count) ↔ (x < 2 ^ count))
    → IsTrue fits ↔ SpellsMapped (SpellsFlags level count) (map flag_item) (b ∷ []) (map flag_item (flags_from count 0 b))
flags_level level count b fits low decides same =
    decided_as fits _ _ decides
    (λ small. record {
      thing = flags_from count 0 b;
      spelled = record { byte = b; fits = low; bytes_are = refl; flags_are = refl; unused = (same b).1 small };
      made = refl;
    })
    (λ s. let is : b ≡ s.spelled.byte = let e = s.spelled.bytes_are in cc in rw is ((same s.spelled.byte).0 s.spelled.unused))

-- Flags take one byte, and are canonical and tidy exactly where no bit above them is set.
pub flags_form_took : (count : ℕ) (bytes : List ℕ) (fits : Bool) → IsBytes bytes → 1 ≤ length bytes
    → IsTrue fits ↔ (get_or bytes 0 0 < 2 ^ count) → Taken (flags_form count) 1 fits fits bytes
flags_form_took count [] fits all some decides = absurd (omega (arith, some))
flags_form_took count (b ∷ bytes) fits all some decides =
    let flags = flags_from count 0 b in
    let low : b < 256 = omega (arith, all 0) in
    record {
      thing = map flag_item flags;
      is =
          (forms_lawful (flags_form count)).exact.taken (b ∷ []) bytes (map flag_item flags)
          (record { thing = flags; spelled = record { byte = b; fits = low; bytes_are = refl; flags_are = refl; unused = tt }; made = refl });
      canonical = flags_level strict count b fits low decides (λ x. (λ p. p, λ p. p));
      tidy = flags_level tidy count b fits low decides (λ x. (λ p. p, λ p. p));
    }

-- no bit above the first ones
pub fits_where : (count byte : ℕ) → byte < 256 → 8 ≤ count → byte < 2 ^ count
fits_where count byte fits most = let up : 2 ^ 8 ≤ 2 ^ count = pow-le-pow_right {n = 2} (omega arith) {i = 8} {j = count} most in omega (arith, fits, up)

-- A byte has no bits above the first ones exactly where its quotient by their power of two is zero.
pub fits_decided : (count byte : ℕ) → IsTrue (nat_eq (byte / 2 ^ count) 0) ↔ (byte < 2 ^ count)
fits_decided count byte =
    let below = div-lt_iff_lt-mul {k = 2 ^ count} {x = byte} {y = 1} (pow_pos count) in (
      λ t. let none : byte / 2 ^ count ≡ 0 = grind (arith, nat_tests) in omega (arith, below.0 (omega (arith, none))),
      λ h. let none : byte / 2 ^ count < 1 = below.1 (omega (arith, h)) in grind (arith, nat_tests),
    )

-- ---- tables

-- An error in a table with the full room for nesting is the error of the field.
pub table_form_fails : (bytes : List ℕ) (e : ParserError) → Fails e (judge_table (judge_value 63) bytes) → Fails e (judge_form table_form bytes)
unfolding judge_form
table_form_fails bytes e h = fails_next e (judge_table (judge_value 63) bytes) _ h

-- A table as a field takes what the table takes, is canonical exactly where the table is, and is tidy.
pub table_form_took : (bytes : List ℕ) (w : ValueJudgement) → IsBytes bytes
    → DecodesAs IsCanonicalTable w bytes (judge_table (judge_value 63) bytes) → Taken table_form w.used w.canonical true bytes
unfolding judge_form
table_form_took bytes w fits h =
    let is = ap (λ j. j >>= λ x. took (entries_item x.0 ∷ []) x.1) h.is in
    let decides = table_strict 63 bytes h.thing w.used fits h.is in
    let one = (forms_lawful table_form).exact.spelled bytes (entries_item h.thing ∷ []) w.used fits is in
    record {
      thing = entries_item h.thing ∷ [];
      is = is;
      canonical =
          decided_as w.canonical _ _ h.decides (λ e. record { thing = h.thing; spelled = decides.0 e; made = refl })
          (λ s. let same : h.thing ≡ s.thing = let e = s.made in cc in decides.1 (rw same s.spelled));
      tidy = (
        λ t. record { thing = one.0.thing; spelled = field_table_plain_is_tidy (take w.used bytes) one.0.thing one.0.spelled; made = one.0.made },
        λ s. refl,
      );
    }

-- ---- reserved fields

reserved_tidy_is_strict : (form : Form) (constant : List Item) (bytes : List ℕ) (items : List Item) → is_least form constant ≡ true
    → SpellsReserved tidy form constant bytes items → SpellsReserved strict form constant bytes items
reserved_tidy_is_strict (flags_form count) constant bytes items least h =
    let s = h.spelled.spelled in
    let flags : SpellsFlags strict count bytes h.spelled.thing =
    record { byte = s.byte; fits = s.fits; bytes_are = s.bytes_are; flags_are = s.flags_are; unused = s.unused } in
    record { dropped = h.dropped; spelled = record { thing = h.spelled.thing; spelled = flags; made = h.spelled.made }; none = h.none; unused = h.unused }
reserved_tidy_is_strict table_form constant bytes items least h = absurd cc
reserved_tidy_is_strict _ constant bytes items least h = record { dropped = h.dropped; spelled = h.spelled; none = h.none; unused = h.unused }

-- An error in the form of a reserved field is the error of the field.
pub reserved_fails : (form : Form) (bytes : List ℕ) (e : ParserError) → Fails e (judge_form form bytes) → Fails e (judge_dropped form bytes)
unfolding judge_dropped
reserved_fails form bytes e h = fails_next e (judge_form form bytes) _ h

pub reserved_took : (form : Form) (constant : List Item) (bytes : List ℕ) (j : Judgement) (as_written : Bool) → IsBytes bytes
    → is_least form constant ≡ true → TakesTidily (SpellsForm strict form) (SpellsForm tidy form) j bytes (judge_form form bytes)
    → IsTrue as_written ↔ (take j.used bytes ≡ form_bytes form constant)
    → TakenReserved form constant j.used as_written bytes
unfolding judge_dropped
reserved_took form constant bytes j as_written fits least h decides =
    let law = reserved_lawful form constant least in
    let is : judge_dropped form bytes ≡ took [] j.used = ap (λ j. j >>= λ x. took [] x.1) h.is in
    let one = law.exact.spelled bytes [] j.used fits is in
    let front = take j.used bytes in
    let up : front ≡ form_bytes form constant → SpellsReserved strict form constant front [] = λ e. rw e (law.canonical_is_strict front [] one.0) in
    record {
      thing = [];
      is = is;
      canonical = decided_as as_written _ _ decides up (λ s. law.strict_is_canonical front [] s);
      tidy =
          decided_as as_written _ _ decides (λ e. law.strict_is_tidy front [] (up e))
          (λ s. law.strict_is_canonical front [] (reserved_tidy_is_strict form constant front [] least s));
    }

-- Comparing two byte lists byte by byte is true exactly where they are equal.
pub bytes_decided : (xs ys : List ℕ) (r : Bool) → r ≡ pointwise nat_eq xs ys → IsTrue r ↔ (xs ≡ ys)
bytes_decided xs ys true h = (λ t. told_text xs ys true h, λ e. refl)
bytes_decided xs ys false h = (λ t. absurd (true≢false (sym t)), λ e. absurd (told_text xs ys false h e))

-- a reserved field is its constant
pub constant_took : (form : Form) (bytes constant : List ℕ) (j : Judgement) (as_written : Bool) → IsBytes bytes
    → is_constant form constant ≡ true → TakesTidily (SpellsForm strict form) (SpellsForm tidy form) j bytes (judge_form form bytes)
    → IsTrue as_written ↔ (take j.used bytes ≡ constant)
    → TakenReserved form (constant_of form constant) j.used as_written bytes
constant_took form bytes constant j as_written fits is h decides =
    let put = constant_put form constant is in
    reserved_took form (constant_of form constant) bytes j as_written fits
    (constant_least form constant is) h (decided_as as_written _ _ decides (λ e. e ∙ sym put) (λ e. e ∙ put))

-- a number is its constant
pub reserved_number_took : (width : NumberWidth) (bytes : List ℕ) (n constant used : ℕ) (as_written : Bool) → IsBytes bytes
    → constant < number_limit width → judge_number width bytes ≡ took n used → IsTrue as_written ↔ (n ≡ constant)
    → TakenReserved (number_form width) (number_item constant ∷ []) used as_written bytes
unfolding judge_form form_bytes
reserved_number_took width bytes n constant used as_written fits low is decides =
    let one = (number_exact width).spelled bytes n used fits is in
    reserved_took (number_form width) (number_item constant ∷ []) bytes
    (record { used = used; canonical = true; tidy = true }) as_written fits (grind (arith, nat_tests)) (number_taken width bytes n used fits is)
    (decided_as as_written _ _ decides (λ e. one.0.bytes_are ∙ ap (number_bytes width) e)
    (λ e. (numbers_lawful width).one_meaning plain (take used bytes) n constant one.0 (record { fits = low; bytes_are = e })))

-- An error in a number is the error of the reserved field that it is.
pub reserved_number_fails : {A : Type 0} (width : NumberWidth) (bytes : List ℕ) (view : A → ℕ) (e : ParserError)
    → AnswersFully view (Err e) (judge_number width bytes) → Fails e (judge_dropped (number_form width) bytes)
unfolding judge_dropped judge_form
reserved_number_fails width bytes view e h =
    fails_next e (judge_form (number_form width) bytes) _ (fails_next e (judge_number width bytes) _ (fully view e (judge_number width bytes) h))

two_bytes : (bytes : List ℕ) → length bytes ≡ 2 → bytes ≡ get_or bytes 0 0 ∷ get_or bytes 1 0 ∷ []
two_bytes [] two = absurd (omega (arith, two))
two_bytes (a ∷ []) two = absurd (omega (arith, two))
two_bytes (a ∷ b ∷ []) two = refl
two_bytes (a ∷ b ∷ c ∷ bytes) two = absurd (omega (arith, two))

-- the same of a constant of 2 bytes
pub reserved_short_took : (bytes constant : List ℕ) (n written used : ℕ) (as_written : Bool) → IsBytes bytes
    → length constant ≡ 2 → written ≡ from_be_bytes (width_of bytes2) (get_or constant 0 0 ∷ get_or constant 1 0 ∷ [])
    → written < number_limit bytes2 → judge_number bytes2 bytes ≡ took n used → IsTrue as_written ↔ (n ≡ written)
    → TakenReserved (number_form bytes2) (constant_of (number_form bytes2) constant) used as_written bytes
reserved_short_took bytes constant n written used as_written fits two is low taken decides =
    let same : written ≡ from_be_bytes (width_of bytes2) constant = is ∙ ap (from_be_bytes (width_of bytes2)) (sym (two_bytes constant two)) in
    rw (← same) (reserved_number_took bytes2 bytes n written used as_written fits low taken decides)
