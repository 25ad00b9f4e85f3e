-- The laws that each form of bytes keeps.
use Rattle.std.specs.Prelude.{◌≡◌, ◌≤◌, ℕ, List, length}
use Rattle.amqp_types.specs.Levels.{Level, plain, tidy, strict}
use Rattle.amqp_types.specs.Judging.{Judge, IsExact}
use Rattle.amqp_types.specs.Numbers.{NumberWidth, number_bytes, judge_number, SpellsNumber}
use Rattle.amqp_types.specs.Signed.{signed_bytes, judge_signed, SpellsSigned}
use Rattle.amqp_types.specs.Strings.{short_string_bytes, judge_short_string, SpellsShortString}
use Rattle.amqp_types.specs.Strings.{with_length, judge_long_string, SpellsLongString}
use Rattle.amqp_types.specs.Flags.{flags_bytes, judge_flags, SpellsFlags}

-- Decoding is exact at level plain, each level is within the one before, no bytes encode two, and
-- the canonical bytes of what is encoded are its one strict encoding and a shortest one.
pub record IsLawful {A : Type 0} (judge : Judge A)
    (Spells : Level → List ℕ → A → Type 0) (canonical : A → List ℕ) : Type 0 where
  pub exact : IsExact judge (Spells plain)
  -- each level is within the one before
  pub strict_is_tidy : (bytes : List ℕ) (x : A) → Spells strict bytes x → Spells tidy bytes x
  pub tidy_is_plain : (bytes : List ℕ) (x : A) → Spells tidy bytes x → Spells plain bytes x
  -- no bytes encode two
  pub one_meaning : (level : Level) (bytes : List ℕ) (x y : A)
      → Spells level bytes x → Spells level bytes y → x ≡ y
  -- What is encoded has one strict encoding, its canonical bytes, and none is shorter.
  pub strict_is_canonical : (bytes : List ℕ) (x : A) → Spells strict bytes x → bytes ≡ canonical x
  pub canonical_is_strict : (bytes : List ℕ) (x : A)
      → Spells plain bytes x → Spells strict (canonical x) x
  pub shortest : (bytes : List ℕ) (x : A) → Spells plain bytes x
      → length (canonical x) ≤ length bytes

-- The laws hold of unsigned numbers of each width, which are encoded alike at all levels.
abbrev pub NumbersAreLawful : Type 0
NumbersAreLawful =
    (width : NumberWidth)
    → IsLawful (judge_number width) (λ level. SpellsNumber width) (number_bytes width)

-- The laws hold of signed numbers of each width, which are encoded alike at all levels.
abbrev pub SignedNumbersAreLawful : Type 0
SignedNumbersAreLawful =
    (width : NumberWidth)
    → IsLawful (judge_signed width) (λ level. SpellsSigned width) (signed_bytes width)

-- The laws hold of short strings, which are encoded alike at all levels.
abbrev pub ShortStringsAreLawful : Type 0
ShortStringsAreLawful = IsLawful judge_short_string (λ level. SpellsShortString) short_string_bytes

-- The laws hold of long strings, which are encoded alike at all levels.
abbrev pub LongStringsAreLawful : Type 0
LongStringsAreLawful = IsLawful judge_long_string (λ level. SpellsLongString) with_length

-- The laws hold of flags in one byte, whatever their count.
abbrev pub FlagsAreLawful : Type 0
FlagsAreLawful =
    (count : ℕ) → IsLawful (judge_flags count) (λ level. SpellsFlags level count) flags_bytes
