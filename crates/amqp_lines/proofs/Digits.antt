-- Digits of a number that are put at the end of a buffer, the last one first.
use Rattle.amqp_lines.proofs
use proofs.Names.{◌≡◌, ℕ, ◌+◌, ◌-◌, ◌/◌, ◌%◌, ◌^◌, ◌<◌, ◌≤◌, List, [], ◌∷◌, ◌++◌, length, drop, sym, ap, ◌∙◌, append_assoc, arith, map, decimal, length-append}
use proofs.Names.{length-drop, flag_at, flags_from, sign}
use Rattle.std.specs.Prelude.{slice_set}
use Rattle.std.proofs.lemmas.Fmt.{decimal_digit, decimal_step, decimal_nonempty, length-decimal-le}
use Rattle.std.proofs.lemmas.Grind.{drop-set_at}
use Rattle.std.proofs.lemmas.List.{map-append}
use Rattle.amqp_types.proofs.FlagBytes.{flags_from_next}

-- the last digits are put, and those of the rest of the number are not
pub record ArePut (number : ℕ) (digits : List ℕ) (place rest : ℕ) : Type 0 where
  pub few : place < 20
  pub fits : rest < 2 ^ 64
  pub all : decimal rest ++ drop (place + 1) digits ≡ decimal number

short : (n : ℕ) → n < 2 ^ 64 → length (decimal n) ≤ 20
short n h = length-decimal-le 20 n (omega arith) (omega arith) h

-- where more than one digit is left, there is room for one more
pub has_room : (number : ℕ) (digits : List ℕ) (place rest : ℕ) → number < 2 ^ 64 → length digits ≡ 20 → 10 ≤ rest → ArePut number digits place rest → 1 ≤ place
has_room number digits place rest fits count more h =
    let fits_rest = h.fits in
    let step = ap length (decimal_step rest more fits_rest) ∙ length-append (decimal (rest / 10)) _ in
    let some = decimal_nonempty (rest / 10) (omega arith) in
    let whole = sym (length-append _ (drop (place + 1) digits)) ∙ ap length h.all in
    omega (arith, step, some, whole, short number fits, length-drop (place + 1) digits, h.few)

-- With one digit more put in front of those that were, the last digits of a number are put, and those of the rest are not.
pub one_more : (number : ℕ) (digits : List ℕ) (place rest : ℕ) → length digits ≡ 20 → 10 ≤ rest → 1 ≤ place
    → ArePut number digits place rest → ArePut number (slice_set digits place (48 + rest % 10)) (place - 1) (rest / 10)
one_more number digits place rest count more some h =
    let fits_rest = h.fits in
    let few = h.few in
    let put = drop-set_at digits place (place - 1 + 1) (48 + rest % 10) (omega arith) (omega arith) in
    record {
      few = omega arith;
      fits = omega arith;
      all = cc (put, append_assoc (decimal (rest / 10)) ((48 + rest % 10) ∷ []) (drop (place + 1) digits), decimal_step rest more fits_rest, h.all);
    }

-- Where the rest of a number is its first digit, the digits from there on are the number as it is printed.
pub last_one : (number : ℕ) (digits : List ℕ) (place rest : ℕ) → length digits ≡ 20 → rest < 10
    → ArePut number digits place rest → drop place (slice_set digits place (48 + rest)) ≡ decimal number
last_one number digits place rest count less h =
    let few = h.few in
    drop-set_at digits place place (48 + rest) (omega arith) (omega arith)
    ∙ ap (λ xs. xs ++ drop (place + 1) digits) (sym (decimal_digit rest less)) ∙ h.all

-- ---- flags

-- With one sign more at the end, the signs of one flag more of a byte are appended.
pub one_more_sign : (k byte : ℕ) (old now next : List ℕ) (one : ℕ) → now ≡ old ++ map sign (flags_from k 0 byte)
    → one ≡ sign (flag_at byte k) → next ≡ now ++ one ∷ [] → next ≡ old ++ map sign (flags_from (k + 1) 0 byte)
one_more_sign k byte old now next one h is e =
    let flags = flags_from k 0 byte in
    cc (e, h, append_assoc old (map sign flags) (one ∷ []), is, flags_from_next k byte, map-append sign flags (flag_at byte k ∷ []))
