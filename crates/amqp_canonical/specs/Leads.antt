-- The first bytes of keys as numbers.
use Rattle.std.specs.Prelude.{ℕ, zero, suc, ◌+◌, ◌*◌, ◌^◌, List, [], ◌∷◌, drop}
use Rattle.amqp_canonical.specs.Writes.{key_in}
use Rattle.amqp_canonical.specs.declared.marks.EntryMark.{EntryMark}

-- the first n bytes of a key as a number, the first byte the highest, with zeros
-- after a shorter key
unfoldable pub leading : ℕ → List ℕ → ℕ
leading zero key = 0
leading (suc n) [] = 0
leading (suc n) (b ∷ key) = b * 256 ^ n + leading n key

-- the key at a mark's place
abbrev pub key_at : List ℕ → EntryMark → List ℕ
key_at content mark = key_in (drop mark.place content)
