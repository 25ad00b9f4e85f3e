-- Signed numbers in two's complement, the most significant byte first.
use Rattle.std.specs.Prelude.{◌≡◌, ℕ, ℤ, List}
use Rattle.std.specs.Int.{cast_signed, cast_unsigned}
use Rattle.amqp_types.specs.Judging.{Judge, took, ◌>>=◌}
use Rattle.amqp_types.specs.Numbers.{NumberWidth, width_of, number_bytes}
use Rattle.amqp_types.specs.Numbers.{judge_number, SpellsNumber}

-- the canonical bytes
abbrev pub signed_bytes : NumberWidth → ℤ → List ℕ
signed_bytes width n = number_bytes width (cast_unsigned (width_of width) n)

-- A signed number has one encoding, at every level: its bits in two's complement.
pub record SpellsSigned (width : NumberWidth) (bytes : List ℕ) (n : ℤ) : Type 0 where
  pub bits : ℕ
  pub spelled : SpellsNumber width bytes bits
  pub means : n ≡ cast_signed (width_of width) bits

-- as many bytes as the width has, read as two's complement; fewer are incomplete
abbrev pub judge_signed : NumberWidth → Judge ℤ
judge_signed width bytes =
    judge_number width bytes >>= λ n. took (cast_signed (width_of width) n.0) n.1
