-- Words that name a number: how numbers are printed, and no others.
use Rattle.std.proofs.Common.{◌≡◌, ◌≢◌, ℕ, ◌^◌, ◌<◌, ◌≤◌, Bool, true, false, ◌&&◌, List, length, get_or, Option, Some, None, Result, Ok, Err, ◌⊎◌, refl, sym}
use Rattle.std.proofs.Common.{ap, subst, ◌∙◌, inl, inr, arith}
use Rattle.std.specs.Prelude.{nat_le, if◌then◌else◌}
use Rattle.std.specs.Fmt.{decimal}
use Rattle.std.specs.Str.{bytes_eq}
use Rattle.std.specs.Str.Parse.{AllDigits, digits_value, ParsesUnsigned}
use Rattle.std.specs.Result.{OkIff}
use Rattle.std.proofs.lemmas.Bool.{cases_lt}
use Rattle.std.proofs.lemmas.Bool.Decides.{nat_tests}
use Rattle.std.proofs.lemmas.Fmt.{decimal_digit, first_decimal, decimal_nonempty, digits_decimal, digits_value-decimal, decimal-digits_value}
use Rattle.std.proofs.lemmas.Slice.Eq.{bytes_eq-Decides}
use Rattle.std.proofs.lemmas.Str.Parse.{IsNumeralModel, numerals_by_value, tells_digits, digit_at, parse_plain}
use Rattle.amqp_types.specs.Numerals.{has_padding, number_named}

-- digits and their values are what std's lemmas ask for
pub numerals : IsNumeralModel (AllDigits 10) (digits_value 10)
numerals = numerals_by_value _ tells_digits

small : (most n : ℕ) → most < 2 ^ 32 → n ≤ most → n < 2 ^ 64
small most n limit h = omega (arith, limit, h)

-- ---- the test of a name

at_most : (most n : ℕ) → nat_le n most ≡ true → n ≤ most
at_most most n e = grind (arith, nat_tests)

-- ---- numbers that are named are how they are printed

picked_both : (a b : Bool) (n : ℕ) → a ≡ true → b ≡ true → (if a && b then Some n else None) ≡ Some n
picked_both true true n e f = refl
picked_both true false n e f = absurd cc
picked_both false b n e f = absurd cc

-- both tests of a number passed
record Picked (a b : Bool) (n k : ℕ) : Type 0 where
  first : a ≡ true
  second : b ≡ true
  is : n ≡ k

picked_by : (a b : Bool) (n k : ℕ) → (if a && b then Some n else None) ≡ Some k → Picked a b n k
picked_by true true n k e = record { first = refl; second = refl; is = cc }
picked_by true false n k e = absurd cc
picked_by false b n k e = absurd cc

-- a number is named by how it is printed
pub named-decimal : (most n : ℕ) → most < 2 ^ 32 → n ≤ most → number_named most (decimal n) ≡ Some n
unfolding number_named
named-decimal most n limit h =
    let same = digits_value-decimal numerals n (small most n limit h) in
    rw same (picked_both (bytes_eq (decimal n) (decimal n)) (nat_le n most) n ((bytes_eq-Decides (decimal n) (decimal n)).1 refl) (grind (arith, nat_tests)))

-- a word that names a number is how it is printed
pub record Named (most : ℕ) (word : List ℕ) (n : ℕ) : Type 0 where
  pub is : word ≡ decimal n
  pub few : n ≤ most

-- A word that is taken as a number up to the greatest is how that number is printed.
pub named : (most : ℕ) (word : List ℕ) (n : ℕ) → number_named most word ≡ Some n → Named most word n
unfolding number_named
named most word n e =
    let own = digits_value 10 word in
    let h = picked_by (bytes_eq word (decimal own)) (nat_le own most) own n e in
    record {
      is = (bytes_eq-Decides word (decimal own)).0 h.first ∙ ap decimal h.is;
      few = subst (λ (k : ℕ). k ≤ most) h.is (at_most most own h.second);
    }

picked-none : (a b : Bool) (n : ℕ) → (a ≡ true → b ≡ true → ⊥) → (if a && b then Some n else None) ≡ None
picked-none true true n h = absurd (h refl refl)
picked-none true false n h = refl
picked-none false b n h = refl

-- a word that is not how its number is printed names none
unnamed : (most : ℕ) (word : List ℕ) → (word ≡ decimal (digits_value 10 word) → digits_value 10 word ≤ most → ⊥) → number_named most word ≡ None
unfolding number_named
unnamed most word h =
    let n = digits_value 10 word in
    picked-none (bytes_eq word (decimal n)) (nat_le n most) n (λ same few. h ((bytes_eq-Decides word (decimal n)).0 same) (at_most most n few))

-- ---- how numbers are printed

printed_zero : (n : ℕ) → n ≤ 0 → length (decimal n) ≡ 1
printed_zero n h = ap (λ k. length (decimal k)) {x = n} {y = 0} (omega arith) ∙ ap length (decimal_digit 0 (omega arith))

digits_first : (ds : List ℕ) → AllDigits 10 ds → 0 < length ds → get_or ds 0 0 ≢ 43
digits_first ds all some e = absurd (let in_range = digit_at ds 0 all some in omega arith)

printed_unsigned : (n : ℕ) → n < 2 ^ 64 → get_or (decimal n) 0 0 ≢ 43
printed_unsigned n h = digits_first (decimal n) (digits_decimal numerals n h) (decimal_nonempty n h)

printed_short : (n : ℕ) → n < 2 ^ 64 → get_or (decimal n) 0 0 ≡ 48 → length (decimal n) ≤ 1
printed_short n h e = elim (cases_lt 0 n) [
  | inl some ↦ absurd (omega (arith, first_decimal n some h))
  | inr none ↦ omega (arith, printed_zero n none)
]

-- ---- words with padding, and other words

-- the two ways of padding a word
abbrev IsPadded : List ℕ → Type 0
IsPadded word = (get_or word 0 0 ≡ 43) ⊎ ((1 < length word) × (get_or word 0 0 ≡ 48))

padding : (word : List ℕ) → has_padding word ≡ true → IsPadded word
padding word e = grind (arith, nat_tests)

-- A word with a plus sign or a leading zero names no number.
pub named_padded : (most : ℕ) (word : List ℕ) → most < 2 ^ 32 → has_padding word ≡ true → number_named most word ≡ None
named_padded most word limit e = unnamed most word (λ same few.
    let n = digits_value 10 word in
    let fits : n < 2 ^ 64 = small most n limit few in
    let long : length word ≡ length (decimal n) = ap length same in
    let first : get_or word 0 0 ≡ get_or (decimal n) 0 0 = ap (λ (xs : List ℕ). get_or xs 0 0) same in
    elim (padding word e) [
      | inl plus ↦ printed_unsigned n fits (sym first ∙ plus)
      | inr zeros ↦ absurd (omega (arith, printed_short n fits (sym first ∙ zeros.1), zeros.0))
    ])

no_plus : (word : List ℕ) → has_padding word ≡ false → get_or word 0 0 ≢ 43
no_plus word e = grind (arith, nat_tests)

no_zeros : (word : List ℕ) → has_padding word ≡ false → get_or word 0 0 ≡ 48 → length word ≤ 1
no_zeros word e = grind (arith, nat_tests)

-- the number that a word was read as, up to a greatest
abbrev pub number_read : {E : Type 0} → ℕ → Result ℕ E → Option ℕ
number_read most (Ok n) = if nat_le n most then Some n else None
number_read most (Err error) = None

picked : (a b : Bool) (n : ℕ) → a ≡ true → (if a && b then Some n else None) ≡ (if b then Some n else None)
picked true b n e = refl
picked false b n e = absurd cc

named_as_read : (most : ℕ) (word : List ℕ) (n : ℕ) → has_padding word ≡ false → AllDigits 10 word → 0 < length word
    → digits_value 10 word < 2 ^ 32 → n ≡ digits_value 10 word → number_named most word ≡ (if nat_le n most then Some n else None)
unfolding number_named
named_as_read most word n e all some fits is =
    let own = digits_value 10 word in
    let same = decimal-digits_value numerals word all some (λ zero. let h = no_zeros word e zero in omega arith) (omega arith) in
    picked (bytes_eq word (decimal own)) (nat_le own most) own ((bytes_eq-Decides word (decimal own)).1 (sym same))
    ∙ ap (λ k. if nat_le k most then Some k else None) (sym is)

named_by : {E : Type 0} (most : ℕ) (word : List ℕ) (r : Result ℕ E) → most < 2 ^ 32 → has_padding word ≡ false
    → OkIff r (AllDigits 10 word × (0 < length word) × (digits_value 10 word < 2 ^ 32)) (digits_value 10 word) → number_named most word ≡ number_read most r
named_by most word (Ok n) limit e h = named_as_read most word n e h.0.0 h.0.1 h.0.2 h.1
named_by most word (Err error) limit e h = unnamed most word (λ same few.
    let n = digits_value 10 word in
    let fits : n < 2 ^ 64 = small most n limit few in
    let all : AllDigits 10 word = subst (AllDigits 10) (sym same) (digits_decimal numerals n fits) in
    let some : 0 < length word = omega (arith, decimal_nonempty n fits, ap length same) in
    h (all, some, omega (arith, limit, few)))

-- A word without a plus sign or a leading zero names the number that it parses as, up to the greatest; where it does not parse, none.
pub named_read : {E : Type 0} (most : ℕ) (word : List ℕ) (r : Result ℕ E) → most < 2 ^ 32
    → has_padding word ≡ false → ParsesUnsigned 32 10 word r → number_named most word ≡ number_read most r
named_read most word r limit e h = named_by most word r limit e (parse_plain numerals 32 word r h (no_plus word e))
