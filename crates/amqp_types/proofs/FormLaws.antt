-- The laws of numbers, strings and flags.
use Rattle.std.proofs.Common.{◌≡◌, ℕ, zero, suc, ℤ, ◌+◌, ◌*◌, ◌/◌, ◌%◌, ◌^◌, ◌<◌, ◌≤◌, eqb, Bool, true, false, List, [], ◌∷◌, ◌++◌, length, refl, sym, ap}
use Rattle.std.proofs.Common.{ap₂, subst, ◌∙◌, arith, inl, inr}
use Rattle.std.proofs.lemmas.Bool.{cases_eq, eq-eqb, ne_eqb}
use Rattle.std.proofs.lemmas.Int.{of_z-to_z}
use Rattle.std.proofs.lemmas.Nat.Bits.{bit_at-suc, bit_at_lowest}
use Rattle.std.specs.Int.{w8, w16, w32, w64, bit_at, cast_signed, cast_unsigned}
use Rattle.amqp_types.specs.Levels.{Level, plain, tidy, strict}
use Rattle.amqp_types.specs.Judging.{Judge, took, IsExact}
use Rattle.amqp_types.specs.Numbers.{NumberWidth, bytes1, bytes2, bytes4, bytes8, width_of, number_limit, number_bytes, judge_number, SpellsNumber}
use Rattle.amqp_types.specs.Signed.{signed_bytes, SpellsSigned}
use Rattle.amqp_types.specs.Strings.{short_string_bytes, SpellsShortString, with_length, SpellsLongString}
use Rattle.amqp_types.specs.Flags.{flag_at, flags_from, bit_of, flags_byte, flags_bytes, judge_flags, SpellsFlags}
use Rattle.amqp_types.specs.FormLaws.{IsLawful, NumbersAreLawful, SignedNumbersAreLawful, ShortStringsAreLawful, LongStringsAreLawful, FlagsAreLawful}
use Rattle.amqp_types.proofs.Exact.{one_meaning}
use Rattle.amqp_types.proofs.FlagBytes.{flags_from_length}
use Rattle.amqp_types.proofs.Numbers.{number_exact}
use Rattle.amqp_types.proofs.Sequences.{map_spelled, map_taken}
use Rattle.amqp_types.proofs.Texts.{signed_exact, short_string_exact, long_string_exact}

-- each level is plain
module _ {A : Type 0} (Spells : Level → List ℕ → A → Type 0) (strict_is_tidy : (bytes : List ℕ) (x : A) → Spells strict bytes x → Spells tidy bytes x)
    (tidy_is_plain : (bytes : List ℕ) (x : A) → Spells tidy bytes x → Spells plain bytes x) where
  -- What is encoded at any level is encoded at plain.
  pub is_plain : (level : Level) (bytes : List ℕ) (x : A) → Spells level bytes x → Spells plain bytes x
  is_plain plain bytes x h = h
  is_plain tidy bytes x h = tidy_is_plain bytes x h
  is_plain strict bytes x h = tidy_is_plain bytes x (strict_is_tidy bytes x h)

-- no bytes encode two, where decoding is exact and each level is plain
pub one_at_each : {A : Type 0} (judge : Judge A) (Spells : Level → List ℕ → A → Type 0) → IsExact judge (Spells plain)
    → ((level : Level) (bytes : List ℕ) (x : A) → Spells level bytes x → Spells plain bytes x)
    → (level : Level) (bytes : List ℕ) (x y : A) → Spells level bytes x → Spells level bytes y → x ≡ y
one_at_each judge Spells exact into level bytes x y p q = one_meaning judge (Spells plain) exact bytes x y (into level bytes x p) (into level bytes y q)

-- a form with one encoding, which is the same at each level
pub once_lawful : {A : Type 0} (judge : Judge A) (Spells : List ℕ → A → Type 0) (canonical : A → List ℕ) → IsExact judge Spells
    → ((bytes : List ℕ) (x : A) → Spells bytes x → bytes ≡ canonical x) → IsLawful judge (λ level. Spells) canonical
once_lawful {A} judge Spells canonical exact only = record {
  exact = exact;
  strict_is_tidy = λ bytes x h. h;
  tidy_is_plain = λ bytes x h. h;
  one_meaning = λ level. one_meaning judge Spells exact;
  strict_is_canonical = only;
  canonical_is_strict = λ bytes x h. let P : List ℕ → Type 0 = λ bs. Spells bs x in subst P (only bytes x h) h;
  shortest = λ bytes x h. omega (arith, ap length (only bytes x h));
}

-- The laws of a form of bytes hold of unsigned numbers of each width, which are encoded alike at all levels.
pub numbers_lawful : NumbersAreLawful
numbers_lawful width = once_lawful (judge_number width) (SpellsNumber width) (number_bytes width) (number_exact width) (λ bytes n h. h.bytes_are)

signed_back : (width : NumberWidth) (n : ℕ) → n < number_limit width → cast_unsigned (width_of width) (cast_signed (width_of width) n) ≡ n
signed_back bytes1 n h = of_z-to_z w8 n h
signed_back bytes2 n h = of_z-to_z w16 n h
signed_back bytes4 n h = of_z-to_z w32 n h
signed_back bytes8 n h = of_z-to_z w64 n h

-- The only encoding of a signed number is its canonical bytes.
pub signed_only : (width : NumberWidth) (bytes : List ℕ) (n : ℤ) → SpellsSigned width bytes n → bytes ≡ signed_bytes width n
signed_only width bytes n h =
    h.spelled.bytes_are ∙ ap (number_bytes width) (sym (ap (cast_unsigned (width_of width)) h.means ∙ signed_back width h.bits h.spelled.fits))

-- The laws of a form of bytes hold of signed numbers of each width, which are encoded alike at all levels.
pub signed_lawful : SignedNumbersAreLawful
signed_lawful width = once_lawful _ (SpellsSigned width) (signed_bytes width) (signed_exact width) (signed_only width)

-- The laws of a form of bytes hold of short strings, which are encoded alike at all levels.
pub short_strings_lawful : ShortStringsAreLawful
short_strings_lawful = once_lawful _ SpellsShortString short_string_bytes short_string_exact (λ bytes text h. h.bytes_are)

-- The laws of a form of bytes hold of long strings, which are encoded alike at all levels.
pub long_strings_lawful : LongStringsAreLawful
long_strings_lawful = once_lawful _ SpellsLongString with_length long_string_exact (λ bytes content h. h.bytes_are)

-- ---- flags

halved : (count k byte : ℕ) → flags_from count (k + 1) byte ≡ flags_from count k (byte / 2)
halved zero k byte = refl
halved (suc count) k byte =
    let up : k + 1 ≡ suc k = omega arith in
    let first : flag_at byte (k + 1) ≡ flag_at (byte / 2) k = ap (flag_at byte) up ∙ ap (λ (n : ℕ). eqb n 1) (bit_at-suc byte k) in
    ap₂ (λ (f : Bool) (fs : List Bool). f ∷ fs) first (halved count (k + 1) byte)

lowest : (byte : ℕ) → bit_of (flag_at byte 0) ≡ byte % 2
lowest byte = elim (cases_eq (bit_at byte 0) 1) [
  | inl one ↦ ap bit_of (eq-eqb (bit_at byte 0) 1 one) ∙ sym one ∙ bit_at_lowest byte
  | inr other ↦ ap bit_of (ne_eqb (bit_at byte 0) 1 other) ∙ omega (arith, bit_at_lowest byte, other)
]

-- the byte of one flag more
more : (count byte : ℕ) → flags_byte (flags_from (suc count) 0 byte) ≡ byte % 2 + 2 * flags_byte (flags_from count 0 (byte / 2))
more count byte = ap₂ (λ (a b : ℕ). a + 2 * b) (lowest byte) (ap flags_byte (halved count 0 byte))

pub flags_byte_within : (count byte : ℕ) → flags_byte (flags_from count 0 byte) ≤ byte
flags_byte_within zero byte = omega arith
flags_byte_within (suc count) byte = omega (arith, more count byte, flags_byte_within count (byte / 2))

-- The byte of n flags is below 2^n.
pub flags_byte_below : (flags : List Bool) → flags_byte flags < 2 ^ length flags
flags_byte_below [] = omega arith
flags_byte_below (true ∷ flags) = let two : 2 ^ suc (length flags) ≡ 2 * 2 ^ length flags = grind arith in omega (arith, flags_byte_below flags, two)
flags_byte_below (false ∷ flags) = let two : 2 ^ suc (length flags) ≡ 2 * 2 ^ length flags = grind arith in omega (arith, flags_byte_below flags, two)

-- A byte below 2^n is the byte of its n lowest flags.
pub flags_byte_back : (count byte : ℕ) → byte < 2 ^ count → flags_byte (flags_from count 0 byte) ≡ byte
flags_byte_back zero byte below = omega arith
flags_byte_back (suc count) byte below =
    let two : 2 ^ suc count ≡ 2 * 2 ^ count = grind arith in
    omega (arith, more count byte, flags_byte_back count (byte / 2) (omega (arith, two)))

first_flag : (flag : Bool) (n : ℕ) → flag_at (bit_of flag + 2 * n) 0 ≡ flag
first_flag true n = let odd : (1 + 2 * n) % 2 ≡ 1 = omega arith in ap (λ (m : ℕ). eqb m 1) (bit_at_lowest (1 + 2 * n) ∙ odd)
first_flag false n = let even : (0 + 2 * n) % 2 ≡ 0 = omega arith in ap (λ (m : ℕ). eqb m 1) (bit_at_lowest (0 + 2 * n) ∙ even)

half : (flag : Bool) (n : ℕ) → (bit_of flag + 2 * n) / 2 ≡ n
half true n = omega arith
half false n = omega arith

-- The flags of a byte that was made of flags are those flags.
pub flags_back : (flags : List Bool) → flags_from (length flags) 0 (flags_byte flags) ≡ flags
flags_back [] = refl
flags_back (flag ∷ flags) =
    ap₂ (λ (f : Bool) (fs : List Bool). f ∷ fs) (first_flag flag (flags_byte flags))
    (halved (length flags) 0 (flags_byte (flag ∷ flags)) ∙ ap (flags_from (length flags) 0) (half flag (flags_byte flags)) ∙ flags_back flags)

flags_spelled : (count : ℕ) (bytes : List ℕ) (byte : ℕ) → SpellsNumber bytes1 bytes byte → SpellsFlags plain count bytes (flags_from count 0 byte)
flags_spelled count bytes byte h = record {
  byte = byte;
  fits = h.fits;
  bytes_are = h.bytes_are ∙ ap (λ (n : ℕ). n ∷ []) (omega (arith, h.fits));
  flags_are = refl;
  unused = tt;
}

flags_taken : (count : ℕ) (bytes rest : List ℕ) (flags : List Bool)
    → SpellsFlags plain count bytes flags → judge_flags count (bytes ++ rest) ≡ took flags (length bytes)
unfolding judge_flags
flags_taken count bytes rest flags h =
    let one : h.byte ≡ h.byte % 256 = omega (arith, h.fits) in
    let spelled : SpellsNumber bytes1 bytes h.byte = record { fits = h.fits; bytes_are = h.bytes_are ∙ ap (λ (n : ℕ). n ∷ []) one } in
    map_taken (flags_from count 0) (judge_number bytes1) (SpellsNumber bytes1) (number_exact bytes1) bytes rest h.byte spelled
    ∙ ap (λ (fs : List Bool). took fs (length bytes)) (sym h.flags_are)

-- Decoding flags takes exactly what encodes them.
pub flags_exact : (count : ℕ) → IsExact (judge_flags count) (SpellsFlags plain count)
unfolding judge_flags
flags_exact count = record {
  spelled = map_spelled (flags_from count 0) (judge_number bytes1) (SpellsNumber bytes1) (SpellsFlags plain count) (number_exact bytes1) (flags_spelled count);
  taken = flags_taken count;
}

flags_strict_is_tidy : (count : ℕ) (bytes : List ℕ) (flags : List Bool) → SpellsFlags strict count bytes flags → SpellsFlags tidy count bytes flags
flags_strict_is_tidy count bytes flags h = record { byte = h.byte; fits = h.fits; bytes_are = h.bytes_are; flags_are = h.flags_are; unused = h.unused }

flags_tidy_is_plain : (count : ℕ) (bytes : List ℕ) (flags : List Bool) → SpellsFlags tidy count bytes flags → SpellsFlags plain count bytes flags
flags_tidy_is_plain count bytes flags h = record { byte = h.byte; fits = h.fits; bytes_are = h.bytes_are; flags_are = h.flags_are; unused = tt }

flags_canonical : (count : ℕ) (bytes : List ℕ) (flags : List Bool) → SpellsFlags plain count bytes flags → SpellsFlags strict count (flags_bytes flags) flags
flags_canonical count bytes flags h =
    let len : length flags ≡ count = ap length h.flags_are ∙ flags_from_length count 0 h.byte in
    record {
      byte = flags_byte flags;
      fits = omega (arith, ap flags_byte h.flags_are, flags_byte_within count h.byte, h.fits);
      bytes_are = refl;
      flags_are = sym (ap (λ (n : ℕ). flags_from n 0 (flags_byte flags)) (sym len) ∙ flags_back flags);
      unused = let P : ℕ → Type 0 = λ n. flags_byte flags < 2 ^ n in subst P len (flags_byte_below flags);
    }

-- The laws of a form of bytes hold of a number of flags in one byte.
pub flags_lawful : FlagsAreLawful
flags_lawful count = record {
  exact = flags_exact count;
  strict_is_tidy = flags_strict_is_tidy count;
  tidy_is_plain = flags_tidy_is_plain count;
  one_meaning =
      one_at_each (judge_flags count) (λ level. SpellsFlags level count) (flags_exact count)
      (is_plain (λ level. SpellsFlags level count) (flags_strict_is_tidy count) (flags_tidy_is_plain count));
  strict_is_canonical = λ bytes flags h. h.bytes_are ∙ ap (λ (n : ℕ). n ∷ []) (sym (ap flags_byte h.flags_are ∙ flags_byte_back count h.byte h.unused));
  canonical_is_strict = flags_canonical count;
  shortest = λ bytes flags h. omega (arith, ap length h.bytes_are);
}
