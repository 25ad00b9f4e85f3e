-- The words that lines of text are made of: numbers, bytes in hex, quoted strings and flags.
use Rattle.std.specs.Prelude.{ℕ, ◌+◌, ◌/◌, ◌%◌, ◌==◌, nat_lt, nat_le, Bool, true, false, ◌&&◌, not}
use Rattle.std.specs.Prelude.{List, [], ◌∷◌, ◌++◌, codes, map, if◌then◌else◌}
use Rattle.std.specs.List.{flat_map}

-- `0` to `9`, and `a` to `f`
unfoldable pub hex_digit : ℕ → ℕ
hex_digit n = if nat_lt n 10 then 48 + n else 87 + n

-- the two digits of a byte
unfoldable pub hex_byte : ℕ → List ℕ
hex_byte byte = hex_digit (byte / 16) ∷ hex_digit (byte % 16) ∷ []

-- the two digits of each byte, one after another
unfoldable pub hex : List ℕ → List ℕ
hex bytes = flat_map hex_byte bytes

-- a byte from the space on to `~`, but for the quote and the backslash
unfoldable pub is_plain : ℕ → Bool
is_plain byte = nat_le 32 byte && nat_le byte 126 && not (byte == 34) && not (byte == 92)

-- A plain byte stands for itself; any other is a backslash and its two digits.
unfoldable pub escaped : ℕ → List ℕ
escaped byte = if is_plain byte then byte ∷ [] else codes "\\" ++ hex_byte byte

-- a short or a long string
unfoldable pub quoted : List ℕ → List ℕ
quoted bytes = codes "\"" ++ (flat_map escaped bytes ++ codes "\"")

-- a flag: `+` for true, `-` for false
abbrev pub sign : Bool → ℕ
sign true = 43
sign false = 45

-- flags, flag 0 first
unfoldable pub signs : List Bool → List ℕ
signs flags = map sign flags

-- texts parted by commas
unfoldable pub parted : List (List ℕ) → List ℕ
parted [] = []
parted (text ∷ []) = text
parted (text ∷ next ∷ texts) = text ++ (codes "," ++ parted (next ∷ texts))
