-- Flags, packed into a byte from its lowest bit on (AMQP 0-9-1, section 4.2.5.2).
use Rattle.std.specs.Prelude.{◌≡◌, ℕ, zero, suc, ◌+◌, ◌*◌, ◌^◌, ◌<◌, ◌==◌}
use Rattle.std.specs.Prelude.{Bool, true, false, List, [], ◌∷◌}
use Rattle.std.specs.Int.{bit_at}
use Rattle.amqp_types.specs.Levels.{Level, plain, tidy, strict}
use Rattle.amqp_types.specs.Judging.{Judge, took, ◌>>=◌}
use Rattle.amqp_types.specs.Numbers.{bytes1, judge_number}

-- flag k of a byte is its bit k
abbrev pub flag_at : ℕ → ℕ → Bool
flag_at byte k = bit_at byte k == 1

-- as many flags of a byte, from bit k on
abbrev pub flags_from : ℕ → ℕ → ℕ → List Bool
flags_from zero k byte = []
flags_from (suc count) k byte = flag_at byte k ∷ flags_from count (k + 1) byte

-- the bit of a flag, 1 where it is set
abbrev pub bit_of : Bool → ℕ
bit_of false = 0
bit_of true = 1

-- the byte whose lowest bits are the flags, and whose unused bits are zero
abbrev pub flags_byte : List Bool → ℕ
flags_byte [] = 0
flags_byte (flag ∷ flags) = bit_of flag + 2 * flags_byte flags

-- the canonical byte
abbrev pub flags_bytes : List Bool → List ℕ
flags_bytes flags = flags_byte flags ∷ []

-- from level tidy on
abbrev pub FromTidy : Level → Type 0 → Type 0
FromTidy plain Rule = Unit {0}
FromTidy tidy Rule = Rule
FromTidy strict Rule = Rule

-- The lowest bits of one byte are the flags. From level tidy on the unused bits, those above the
-- flags, are zero.
pub record SpellsFlags (level : Level) (count : ℕ)
    (bytes : List ℕ) (flags : List Bool) : Type 0 where
  pub byte : ℕ
  pub fits : byte < 256
  pub bytes_are : bytes ≡ byte ∷ []
  pub flags_are : flags ≡ flags_from count 0 byte
  pub unused : FromTidy level (byte < 2 ^ count)

-- as many flags out of one byte, from its lowest bit on; its unused bits are ignored
unfoldable pub judge_flags : ℕ → Judge (List Bool)
judge_flags count bytes =
    judge_number bytes1 bytes >>= λ byte. took (flags_from count 0 byte.0) byte.1
