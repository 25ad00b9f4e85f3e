-- Signed numbers of each width, in two's complement of 64 bits.
use Rattle.amqp_fields_write.proofs.Names.{◌≡◌, ℕ, suc, ◌*◌, ◌-◌, ◌<◌, ◌≤◌, ◌^◌, ◌%◌, inl, inr, true, sym, ap, ◌∙◌, arith, to_z_pos}
use Rattle.amqp_fields_write.proofs.Names.{numbers, cases_lt, NumberWidth, bytes1, number_limit, width_of}
use Rattle.std.proofs.Math.Facts.{to_z-neg}
use Rattle.std.specs.Int.{w8, w64, cast_signed, cast_unsigned}
use Rattle.amqp_fields_write.specs.Made.{half_limit, is_signed}

-- ---- what is known of each width

low_bits : (width : NumberWidth) (n : ℕ) → n < half_limit width → cast_unsigned w64 (cast_signed (width_of width) n) ≡ n
low_bits bytes1 n few = ap (cast_unsigned w64) (to_z_pos w8 n few)
low_bits width n few = ap (cast_unsigned w64) (to_z_pos (width_of width) n few)

high_bits : (width : NumberWidth) (k : ℕ) → k < half_limit width
    → cast_unsigned w64 (cast_signed (width_of width) (number_limit width - suc k)) ≡ 2 ^ 64 - suc k
high_bits bytes1 k below = ap (cast_unsigned w64) (to_z-neg w8 k below)
high_bits width k below = ap (cast_unsigned w64) (to_z-neg (width_of width) k below)

low_rest : (width : NumberWidth) (n : ℕ) → n < half_limit width → n % number_limit width ≡ n
low_rest bytes1 n few = omega arith
low_rest width n few = omega arith

high_rest : (width : NumberWidth) (k : ℕ) → k < half_limit width → (2 ^ 64 - suc k) % number_limit width ≡ number_limit width - suc k
high_rest bytes1 k below = omega arith
high_rest width k below = omega arith

halves : (width : NumberWidth) → (number_limit width ≡ 2 * half_limit width) × (half_limit width ≤ 2 ^ 63)
halves bytes1 = (omega arith, omega arith)
halves width = (omega arith, omega arith)

-- ---- both ways

-- a signed number that a width holds is the one that its lowest bits stand for
pub signed_back : (width : NumberWidth) (n : ℕ) → is_signed width n ≡ true → n ≡ cast_unsigned w64 (cast_signed (width_of width) (n % number_limit width))
signed_back width n fits = elim (cases_lt n (half_limit width)) [
  | inl few ↦ sym (ap (λ k. cast_unsigned w64 (cast_signed (width_of width) k)) (low_rest width n few) ∙ low_bits width n few)
  | inr high ↦ (
      let most : (2 ^ 64 - half_limit width ≤ n) × (n < 2 ^ 64) = (grind numbers, grind numbers) in
      let k = 2 ^ 64 - 1 - n in
      let half = (halves width).1 in
      let below : k < half_limit width = omega arith in
      let back : 2 ^ 64 - suc k ≡ n = omega arith in
      let rest : n % number_limit width ≡ number_limit width - suc k = ap (λ m. m % number_limit width) (sym back) ∙ high_rest width k below in
      sym (ap (λ m. cast_unsigned w64 (cast_signed (width_of width) m)) rest ∙ high_bits width k below ∙ back))
]

-- the signed number that bits of a width stand for is one of the width, and has these lowest bits
pub signed_bits : (width : NumberWidth) (bits number : ℕ) → bits < number_limit width
    → number ≡ cast_unsigned w64 (cast_signed (width_of width) bits) → (is_signed width number ≡ true) × (number % number_limit width ≡ bits)
signed_bits width bits number few is = elim (cases_lt bits (half_limit width)) [
  | inl low ↦ (
      let same : number ≡ bits = is ∙ low_bits width bits low in
      (grind numbers, ap (λ n. n % number_limit width) same ∙ low_rest width bits low))
  | inr high ↦ (
      let k = number_limit width - 1 - bits in
      let half = halves width in
      let below : k < half_limit width = omega arith in
      let back : number_limit width - suc k ≡ bits = omega arith in
      let same : number ≡ 2 ^ 64 - suc k = is ∙ ap (λ m. cast_unsigned w64 (cast_signed (width_of width) m)) (sym back) ∙ high_bits width k below in
      let least : 2 ^ 64 - half_limit width ≤ number = omega arith in
      let most : number < 2 ^ 64 = omega arith in
      (grind numbers, ap (λ n. n % number_limit width) same ∙ high_rest width k below ∙ back))
]
