-- Parts of byte lists are byte lists.
use Rattle.std.proofs.Common.{ℕ, ◌+◌, List, drop, take, arith, inl, inr}
use Rattle.std.proofs.lemmas.Bool.{cases_lt}
use Rattle.std.proofs.lemmas.List.{length-take, get_or-drop, get_or-take, get_or_past}
use Rattle.amqp_types.specs.Judging.{IsBytes}

-- What follows some bytes of a byte list is a byte list.
pub IsBytes-drop : (n : ℕ) (bytes : List ℕ) → IsBytes bytes → IsBytes (drop n bytes)
IsBytes-drop n bytes fits i = rw get_or-drop (fits (n + i))

-- The first bytes of a byte list are a byte list.
pub IsBytes-take : (n : ℕ) (bytes : List ℕ) → IsBytes bytes → IsBytes (take n bytes)
IsBytes-take n bytes fits i = elim (cases_lt i n) [
  | inl below ↦ rw (get_or-take n bytes i 0 below) (fits i)
  | inr above ↦ rw (get_or_past (take n bytes) i 0 (omega (arith, length-take n bytes))) (omega arith)
]
