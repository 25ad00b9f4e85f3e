-- Numbers in front of bytes: each is read as it is printed.
use Rattle.std.proofs.Common.{◌≡◌, ℕ, ◌<◌, Bool, true, false, List, [], ◌∷◌, ◌++◌, length, take, drop, Option, Some, None, refl, sym, ap, ◌∙◌, one-add, arith}
use Rattle.std.specs.Char.{is_ascii_digit, digit_value}
use Rattle.std.specs.Fmt.{decimal}
use Rattle.std.specs.Int.{IsInRange}
use Rattle.std.specs.Option.{option_map}
use Rattle.std.specs.Str.{IsUtf8}
use Rattle.std.specs.Str.Parse.{AllDigits}
use Rattle.std.proofs.Math.Seq.{take-append_seam}
use Rattle.std.proofs.lemmas.Bool.Decides.{nat_tests}
use Rattle.std.proofs.lemmas.Fmt.{digits_decimal, IsAscii-from_digits}
use Rattle.std.proofs.lemmas.Str.{IsUtf8-from_ascii, digit_value_digit}
use Rattle.std.proofs.lemmas.List.{take-append-drop, drop_at}
use Rattle.std.proofs.lemmas.Str.Parse.{digit_from_value}
use Rattle.amqp_types.specs.Numerals.{number_named}
use Rattle.amqp_types.proofs.Numerals.{named, named-decimal, numerals}
use Rattle.amqp_select.specs.Rules.{IsNumber}
use Rattle.amqp_select.specs.Reading.{digits_in_front, read_count}

-- ---- digits in front

-- no digit stands in front
abbrev pub BeginsNoDigit : List ℕ → Type 0
BeginsNoDigit [] = Unit {0}
BeginsNoDigit (byte ∷ rest) = is_ascii_digit byte ≡ false

is_digit : (c : ℕ) → digit_value c < 10 → is_ascii_digit c ≡ true
is_digit c h = let in_range = digit_from_value c h in grind (arith, nat_tests)

pub digits_in_front-append : (digits rest : List ℕ) → AllDigits 10 digits → BeginsNoDigit rest → digits_in_front (digits ++ rest) ≡ length digits
digits_in_front-append [] [] all ends = refl
digits_in_front-append [] (byte ∷ rest) all ends = rw ends refl
digits_in_front-append (digit ∷ digits) rest all ends =
    let digit_is = is_digit digit all.0 in
    let more = digits_in_front-append digits rest all.1 ends in
    rw digit_is (omega (arith, more))

-- what was read stands in front, in these digits
pub record Front {A : Type 0} (text : A → List ℕ) (Is : A → Type 0) (bytes : List ℕ) (found : A × List ℕ) : Type 0 where
  pub is : bytes ≡ text found.0 ++ found.1
  pub valid : Is found.0

-- A number that is printed in front of bytes without a digit first is read as this number, and these bytes are left.
pub number_taken : (n : ℕ) (rest : List ℕ) → IsNumber n → BeginsNoDigit rest → read_count (decimal n ++ rest) ≡ Some (n, rest)
number_taken n rest h ends =
    let count = digits_in_front-append (decimal n) rest (digits_decimal numerals n (omega (arith, h))) ends in
    rw count
    (rw (take-append_seam (decimal n) rest) (rw (drop_at (decimal n) rest (length (decimal n)) refl) (rw (named-decimal 65535 n (omega arith) h) refl)))

mapped : (o : Option ℕ) (rest : List ℕ) (found : ℕ × List ℕ) → option_map (λ n. (n, rest)) o ≡ Some found → (o ≡ Some found.0) × (rest ≡ found.1)
mapped None rest found e = absurd cc
mapped (Some n) rest found e = (ap (option_map (λ (p : ℕ × List ℕ). p.0)) e, cc)

-- What is read as a number in front of bytes stands there as it is printed, and is within the range.
pub number_front : (bytes : List ℕ) (found : ℕ × List ℕ) → read_count bytes ≡ Some found → Front decimal IsNumber bytes found
number_front bytes found e =
    let count = digits_in_front bytes in
    let h = mapped (number_named 65535 (take count bytes)) (drop count bytes) found e in
    let digits = named 65535 (take count bytes) found.0 h.0 in
    record {
      is = sym (take-append-drop count bytes) ∙ ap (λ front. front ++ drop count bytes) digits.is ∙ ap (λ rest. decimal found.0 ++ rest) h.1;
      valid = digits.few;
    }

-- ---- digits as text

-- Digits are UTF-8.
pub text_of_digits : (digits : List ℕ) → AllDigits 10 digits → IsUtf8 digits
text_of_digits digits all = IsUtf8-from_ascii digits (IsAscii-from_digits digits all)

-- ---- what is counted is digits

in_digits : (c : ℕ) → is_ascii_digit c ≡ true → IsInRange 48 57 c
in_digits c e = (grind (arith, nat_tests), grind (arith, nat_tests))

digit_of : (c : ℕ) → is_ascii_digit c ≡ true → digit_value c < 10
digit_of c e = let value = digit_value_digit c (in_digits c e) in let below = in_digits c e in omega (arith, below.1)

front_digit : (byte : ℕ) (bytes : List ℕ) (b : Bool) → is_ascii_digit byte ≡ b
    → AllDigits 10 (take (digits_in_front bytes) bytes) → AllDigits 10 (take (digits_in_front (byte ∷ bytes)) (byte ∷ bytes))
front_digit byte bytes true is more = rw is (rw one-add (digit_of byte is, more))
front_digit byte bytes false is more = rw is tt

-- The digits that are counted in front of bytes are digits.
pub front_digits : (bytes : List ℕ) → AllDigits 10 (take (digits_in_front bytes) bytes)
front_digits [] = tt
front_digits (byte ∷ bytes) = front_digit byte bytes (is_ascii_digit byte) refl (front_digits bytes)
