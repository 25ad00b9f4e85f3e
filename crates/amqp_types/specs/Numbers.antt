-- Unsigned numbers, the most significant byte first (AMQP 0-9-1, section 4.2.5.1).
use Rattle.std.specs.Prelude.{◌≡◌, ℕ, ◌^◌, ◌<◌, nat_lt, List, length, take, if◌then◌else◌}
use Rattle.std.specs.Int.{Width, w8, w16, w32, w64, from_be_bytes, to_be_bytes}
use Rattle.amqp_types.specs.Judging.{Judge, took, past}

-- the widths that numbers have on the wire: octet, short, long and long long
pub data NumberWidth : Type 0 where
  bytes1 : NumberWidth
  bytes2 : NumberWidth
  bytes4 : NumberWidth
  bytes8 : NumberWidth

-- the same width, counted in bits
abbrev pub width_of : NumberWidth → Width
width_of bytes1 = w8
width_of bytes2 = w16
width_of bytes4 = w32
width_of bytes8 = w64

-- how many bytes a number of the width has
abbrev pub byte_count : NumberWidth → ℕ
byte_count bytes1 = 1
byte_count bytes2 = 2
byte_count bytes4 = 4
byte_count bytes8 = 8

-- the first number that the width does not hold
abbrev pub number_limit : NumberWidth → ℕ
number_limit bytes1 = 2 ^ 8
number_limit bytes2 = 2 ^ 16
number_limit bytes4 = 2 ^ 32
number_limit bytes8 = 2 ^ 64

-- the canonical bytes
abbrev pub number_bytes : NumberWidth → ℕ → List ℕ
number_bytes width n = to_be_bytes (width_of width) n

-- A number has one encoding, at every level.
pub record SpellsNumber (width : NumberWidth) (bytes : List ℕ) (n : ℕ) : Type 0 where
  pub fits : n < number_limit width
  pub bytes_are : bytes ≡ number_bytes width n

-- as many bytes as the width has, the most significant first; fewer are incomplete
abbrev pub judge_number : NumberWidth → Judge ℕ
judge_number width bytes =
    if nat_lt (length bytes) (byte_count width) then past
    else took (from_be_bytes (width_of width) (take (byte_count width) bytes)) (byte_count width)
