-- Numbers that are written in decimal.
use Rattle.std.specs.Prelude.{ℕ, List, length, Bool, ◌&&◌, ◌||◌, ◌==◌, nat_lt, nat_le, slice_index}
use Rattle.std.specs.Prelude.{Option, Some, None, if◌then◌else◌}
use Rattle.std.specs.Fmt.{decimal}
use Rattle.std.specs.Str.{bytes_eq}
use Rattle.std.specs.Str.Parse.{digits_value}

-- the number that a word names, up to a greatest: the word is how the number is printed
unfoldable pub number_named : ℕ → List ℕ → Option ℕ
number_named most word =
    let n = digits_value 10 word in
    if bytes_eq word (decimal n) && nat_le n most then Some n else None

-- no number is printed so: a plus stands first, or a zero and more after it
abbrev pub has_padding : List ℕ → Bool
has_padding word =
    (slice_index word 0 == 43) || (nat_lt 1 (length word) && (slice_index word 0 == 48))
