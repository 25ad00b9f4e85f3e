-- Bytes in a word whose highest bits are not set.
use Rattle.std.proofs.Common.{◌≡◌, ℕ, zero, suc, ◌+◌, ◌*◌, ◌-◌, ◌<◌, ◌≤◌, IsTrue, nat_eq, List}
use Rattle.std.proofs.Common.{[], ◌∷◌, length, take, drop, get_or, slice_index, sym, ap, subst, ◌∙◌, arith}
use Rattle.std.proofs.lemmas.Bool.Decides.{nat_tests}
use Rattle.std.proofs.lemmas.List.{length-take-le, length-drop, take_all, take_rest}
use Rattle.std.proofs.lemmas.Nat.{and_block}
use Rattle.std.proofs.lemmas.Nat.Bits.{and_pow}
use Rattle.std.specs.Int.RustNames.{bit_and}
use Rattle.std.specs.Str.{IsAscii}
use Rattle.amqp_types.specs.Judging.{IsBytes}
use Rattle.amqp_types.proofs.Bytes.{IsBytes-take}
use Rattle.amqp_canonical.proofs.AsciiEnds.{ascii_ends}

-- a word of these bytes, the first one the lowest
abbrev pub word : List ℕ → ℕ
word [] = 0
word (b ∷ bytes) = word bytes * 256 + b

-- the highest bits of so many bytes
abbrev pub high_bits : ℕ → ℕ
high_bits zero = 0
high_bits (suc n) = high_bits n * 256 + 128

high_parts : (b : ℕ) (bytes : List ℕ) → b < 256 → bit_and (word (b ∷ bytes)) (high_bits (suc (length bytes))) ≡ 0
    → (bit_and (word bytes) (high_bits (length bytes)) ≡ 0) × (b < 128)
high_parts b bytes fits none =
    let high = bit_and (word bytes) (high_bits (length bytes)) in
    let sum : high * 256 + bit_and b 128 ≡ 0 = sym (and_block 8 (word bytes) (high_bits (length bytes)) b 128 fits (omega arith)) ∙ none in
    let low = and_pow b 7 in
    (omega (arith, sum), omega (arith, low, sum, fits))

ascii_word : (bytes : List ℕ) → IsBytes bytes → bit_and (word bytes) (high_bits (length bytes)) ≡ 0 → (i : ℕ) → slice_index bytes i < 128
ascii_word [] fits none i = omega arith
ascii_word (b ∷ bytes) fits none zero = let parts = high_parts b bytes (fits 0) none in parts.1
ascii_word (b ∷ bytes) fits none (suc i) = let parts = high_parts b bytes (fits 0) none in ascii_word bytes (λ k. fits (suc k)) parts.0 i

-- a word of the first bytes has no highest bit set: they are ASCII
pub ascii_first : (n : ℕ) (bytes : List ℕ) (w : ℕ) → n ≤ length bytes → IsBytes bytes → w ≡ word (take n bytes)
    → IsTrue (nat_eq (bit_and w (high_bits n)) 0) → IsAscii (take n bytes)
ascii_first n bytes w many fits is test =
    let none : bit_and w (high_bits n) ≡ 0 = grind (arith, nat_tests, test) in
    ascii_word (take n bytes) (IsBytes-take n bytes fits) (rw (length-take-le n bytes many, ← is) none)

-- the word of the first four bytes
pub word_of_four : (bytes : List ℕ) → 4 ≤ length bytes
    → word (take 4 bytes) ≡ get_or bytes 0 0 + 256 * get_or bytes 1 0 + 65536 * get_or bytes 2 0 + 16777216 * get_or bytes 3 0
word_of_four (a ∷ b ∷ c ∷ d ∷ rest) many = omega arith
word_of_four bytes many = absurd (omega (arith, many))

-- the word of the first eight bytes
pub word_of_eight : (bytes : List ℕ) → 8 ≤ length bytes
    → word (take 8 bytes) ≡ get_or bytes 0 0 + 256 * get_or bytes 1 0 + 65536 * get_or bytes 2 0 + 16777216 * get_or bytes 3 0
    + 4294967296 * (get_or bytes 4 0 + 256 * get_or bytes 5 0 + 65536 * get_or bytes 6 0 + 16777216 * get_or bytes 7 0)
word_of_eight (a ∷ b ∷ c ∷ d ∷ e ∷ f ∷ g ∷ h ∷ rest) many = omega arith
word_of_eight bytes many = absurd (omega (arith, many))

-- the first n and the last n bytes are ASCII, which together are all
pub ascii_both : (n : ℕ) (bytes : List ℕ) → n ≤ length bytes → length bytes ≤ 2 * n → IsAscii (take n bytes)
    → IsAscii (take n (take (length bytes - (length bytes - n)) (drop (length bytes - n) bytes))) → IsAscii bytes
ascii_both n bytes many few first last =
    let behind = drop (length bytes - n) bytes in
    let same = ap (take n) (take_rest bytes (length bytes - n)) ∙ take_all n behind (omega (arith, length-drop (length bytes - n) bytes, many)) in
    ascii_ends bytes n many few first (subst (λ bs. IsAscii bs) same last)
