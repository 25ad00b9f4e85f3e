-- Content that is found canonical in one quick pass: its keys.
use Rattle.std.proofs.Common.{◌≡◌, ◌≤◌, ℕ, ◌+◌, ◌*◌, true, List, [], ◌∷◌, length, take, drop, get_or, sym, ap, arith}
use Rattle.std.proofs.lemmas.Bool.{le-ltb}
use Rattle.std.proofs.lemmas.List.{length-take-le}
use Rattle.std.proofs.lemmas.Str.{IsUtf8-from_ascii, is_utf8-from_IsUtf8}
use Rattle.std.specs.Str.{IsAscii, is_utf8}
use Rattle.amqp_types.specs.Judging.{took}
use Rattle.amqp_types.specs.Strings.{judge_short_string}
use Rattle.amqp_canonical.specs.Leads.{leading}

-- ASCII is UTF-8
pub ascii_text : (text : List ℕ) → IsAscii text → is_utf8 text ≡ true
ascii_text text ascii = is_utf8-from_IsUtf8 text (IsUtf8-from_ascii text ascii)

key_read : (n : ℕ) (rest : List ℕ) → n ≤ length rest → IsAscii (take n rest)
    → judge_short_string (n ∷ rest) ≡ took (take n rest) (1 + length (take n rest))
unfolding judge_short_string
key_read n rest enough ascii =
    let there = le-ltb (length rest) n enough in
    let utf8 = ascii_text (take n rest) ascii in
    rw (there, utf8) (ap (λ (k : ℕ). took (take n rest) (1 + k)) (sym (length-take-le n rest enough)))

-- a key of ASCII at the front is decoded
pub front_key : (i : List ℕ) → 1 ≤ length i → get_or i 0 0 ≤ length (drop 1 i) → IsAscii (take (get_or i 0 0) (drop 1 i))
    → judge_short_string i ≡ took (take (get_or i 0 0) (drop 1 i)) (1 + length (take (get_or i 0 0) (drop 1 i)))
front_key [] some enough ascii = absurd (omega (arith, some))
front_key (n ∷ rest) some enough ascii = key_read n rest enough ascii

-- the number of the first four bytes
pub four_are : (key : List ℕ) → 4 ≤ length key
    → leading 4 key ≡ get_or key 0 0 * 16777216 + get_or key 1 0 * 65536 + get_or key 2 0 * 256 + get_or key 3 0
unfolding leading
four_are [] many = absurd (omega (arith, many))
four_are (a ∷ []) many = absurd (omega (arith, many))
four_are (a ∷ b ∷ []) many = absurd (omega (arith, many))
four_are (a ∷ b ∷ c ∷ []) many = absurd (omega (arith, many))
four_are (a ∷ b ∷ c ∷ d ∷ rest) many = omega arith
