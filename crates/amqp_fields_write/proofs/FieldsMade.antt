-- What fields make, by the parts that are put.
use Rattle.amqp_fields_write.proofs
use proofs.Names.{◌≡◌, ℕ, zero, suc, ◌+◌, ◌-◌, ◌*◌, ◌<◌, ◌≤◌, ◌^◌, ◌==◌, Bool, true, false, List, [], ◌∷◌, length, get_or, drop, Result, Ok, Err, refl, ap, ◌∙◌}
use proofs.Names.{inl, inr, arith, numbers, cases_lt, pow_mono, bit_of, Node, Refusal, next_place, flag_before, flags_in, is_flag, worths, IsFlagsByte}
use Rattle.amqp_types.specs.Properties.{properties, later_properties}
use Rattle.amqp_fields_write.specs.Made.{misfit}

-- ---- flags

module _ (end place next : ℕ) where
  -- where no flags are left, none are taken
  pub flags_none : (count : ℕ) (nodes : List Node) → count ≡ 0 → flags_in end place count nodes ≡ Ok []
  unfolding flags_in
  flags_none count nodes none = rw none

  -- where a flag is left and no node, the place where the nodes end is refused
  pub flags_missing : (count : ℕ) (nodes : List Node) → 0 < count → length nodes < 1 → flags_in end place count nodes ≡ misfit end
  unfolding flags_in
  flags_missing (suc count) [] some none = refl
  flags_missing count nodes some none = absurd (omega (arith, some, none))

  -- a first node that is no flag at the place is refused
  pub flags_other : (count : ℕ) (nodes : List Node) (blank : Node) → 0 < count → 1 ≤ length nodes
      → is_flag place (get_or nodes 0 blank) ≡ false → flags_in end place count nodes ≡ misfit (end - length nodes)
  unfolding flags_in
  flags_other (suc count) (node ∷ nodes) blank some more other = rw other
  flags_other count nodes blank some more other = absurd (omega (arith, some, more))

  -- a first node that is a flag at the place stands in front of the flags of the others
  pub flags_more : (count : ℕ) (nodes : List Node) (blank : Node) → 0 < count → 1 ≤ length nodes
      → is_flag place (get_or nodes 0 blank) ≡ true → next ≡ next_place place 1
      → flags_in end place count nodes ≡ flag_before (get_or nodes 0 blank).number (flags_in end next (count - 1) (drop 1 nodes))
  unfolding flags_in
  flags_more (suc count) (node ∷ nodes) blank some more is at = let less : suc count - 1 ≡ count = omega arith in rw (is, at, less)
  flags_more count nodes blank some more is at = absurd (omega (arith, some, more))

-- a number below 2 is the bit of whether it is 1
pub bit_is : (n : ℕ) → n < 2 → bit_of (n == 1) ≡ n
bit_is zero few = refl
bit_is (suc zero) few = refl
bit_is (suc (suc n)) few = absurd (omega (arith, few))

-- the number of a flag is below 2
pub flag_few : (place : ℕ) (node : Node) → is_flag place node ≡ true → node.number < 2
flag_few place node is = grind (numbers, is)

-- a bit with a number of count - 1 bits above it is a number of count bits
one_more_bit : (bit count byte : ℕ) → bit ≤ 1 → 0 < count → byte < 2 ^ (count - 1) → bit + 2 * byte < 2 ^ count
one_more_bit bit zero byte small some below = absurd (omega arith)
one_more_bit bit (suc n) byte small some below =
    let two : 2 ^ suc n ≡ 2 * 2 ^ n = grind arith in
    let same : suc n - 1 ≡ n = omega arith in
    let less : byte < 2 ^ n = rw same at below in
    omega arith

-- one more flag in front
pub byte_more : (read more : Result (List Bool) Refusal) (number count byte total : ℕ) → read ≡ flag_before number more
    → number < 2 → 0 < count → IsFlagsByte more (count - 1) byte → total ≡ number + 2 * byte → IsFlagsByte read count total
byte_more read more number count byte total is few some h sum =
    record {
      flags = (number == 1) ∷ h.flags;
      is = is ∙ ap (flag_before number) h.is;
      byte_is = sum ∙ omega (arith, bit_is number few, h.byte_is);
      fits = rw sum (one_more_bit number count byte (omega (arith, few)) some h.fits);
    }

-- a refusal behind a flag is one of all flags
pub byte_refused : (read more : Result (List Bool) Refusal) (number : ℕ) (bad : Refusal) → read ≡ flag_before number more → more ≡ Err bad → read ≡ Err bad
byte_refused read more number bad is h = is ∙ ap (flag_before number) h

-- ---- masks

-- a bit that is worth less than 2 ^ 16 is below 16
pub bit_below : (bit : ℕ) → 2 ^ bit < 2 ^ 16 → bit < 16
bit_below bit less = elim (cases_lt bit 16) [
  | inl lt ↦ lt
  | inr ge ↦ absurd (omega (arith, pow_mono ge, less))
]

-- the bits of all properties together fit a mask of 2 bytes
pub worths_few : worths properties < 2 ^ 16
unfolding properties later_properties
worths_few = omega arith
