-- Reading a text from the left: what was read, and the text after it.
use Rattle.std.specs.Prelude.{ℕ, List, Option, Some, None}

-- what was read, and the text after it
abbrev pub Reading : Type 0 → Type 0
Reading A = Option (A × List ℕ)

-- a way to read the front of a text; it is refused by None
abbrev pub Reader : Type 0 → Type 0
Reader A = List ℕ → Reading A

infixl 10 ◌>>=◌
-- what is read next, by what was read; None where nothing was
abbrev pub ◌>>=◌ : {A B : Type 0} → Option A → (A → Option B) → Option B
None >>= f = None
(Some a) >>= f = f a
