-- Short and long strings (AMQP 0-9-1, section 4.2.5.3).
use Rattle.std.specs.Prelude.{◌≡◌, ℕ, ◌+◌, ◌^◌, ◌<◌, nat_lt, nat_le, Bool, false, List, [], ◌∷◌}
use Rattle.std.specs.Prelude.{◌++◌, length, take, drop, if◌then◌else◌, Result}
use Rattle.std.specs.Str.{is_utf8, IsUtf8}
use Rattle.amqp_types.specs.Judging.{Judge, took, past, fault, not_utf8, ◌>>=◌}
use Rattle.amqp_types.specs.Numbers.{bytes4, number_bytes, judge_number}
use Rattle.amqp_types.specs.Sizes.{measured}
use Rattle.amqp_types.specs.declared.errors.GenError.{GenError}

-- ---- short strings: a length of one byte, and that many bytes of UTF-8

-- the canonical bytes
abbrev pub short_string_bytes : List ℕ → List ℕ
short_string_bytes text = length text ∷ text

-- A short string has one encoding, at every level.
pub record SpellsShortString (bytes text : List ℕ) : Type 0 where
  pub fits : length text < 256
  pub utf8 : IsUtf8 text
  pub bytes_are : bytes ≡ short_string_bytes text

-- fewer bytes than the length says are incomplete, even where those that are there are not UTF-8
unfoldable pub judge_short_string : Judge (List ℕ)
judge_short_string [] = past
judge_short_string (n ∷ bytes) =
    if nat_lt (length bytes) n then past
    else (if is_utf8 (take n bytes) then took (take n bytes) (1 + n) else fault not_utf8)

-- ---- long strings: a length of four bytes, and that many bytes

-- the length of some bytes, and the bytes
abbrev pub with_length : List ℕ → List ℕ
with_length content = number_bytes bytes4 (length content) ++ content

-- four bytes do not hold the length
abbrev pub is_too_long : List ℕ → Bool
is_too_long content = nat_le (2 ^ 32) (length content)

-- the size of the canonical bytes, where there are any
abbrev pub long_string_size : List ℕ → Result ℕ GenError
long_string_size content = measured false (is_too_long content) (with_length content)

-- A long string has one encoding, at every level.
pub record SpellsLongString (bytes content : List ℕ) : Type 0 where
  pub fits : length content < 2 ^ 32
  pub bytes_are : bytes ≡ with_length content

-- fewer bytes than the length says are incomplete; all bytes are allowed
unfoldable pub judge_long_string : Judge (List ℕ)
judge_long_string bytes = do
  n ← judge_number bytes4 bytes
  if nat_lt (length (drop n.1 bytes)) n.0 then past
      else took (take n.0 (drop n.1 bytes)) (n.1 + n.0)
