-- What calls write.
use Rattle.std.specs.Prelude.{◌≡◌, ℕ, ◌+◌, List, ◌++◌, length, take, drop, Result, Ok, Err}
use Rattle.amqp_types.specs.declared.errors.GenError.{GenError}
use Rattle.amqp_types.specs.declared.errors.GenError.TheVariants as errors

-- a buffer with these bytes from a place on, and its others as they were
unfoldable pub written : List ℕ → ℕ → List ℕ → List ℕ
written buf at bytes = take at buf ++ (bytes ++ drop (at + length bytes) buf)

-- a put call puts the bytes at the place, and returns the place after them
pub record Puts (old new : List ℕ) (at : ℕ) (bytes : List ℕ) (result : ℕ) : Type 0 where
  pub put : new ≡ written old at bytes
  pub behind : result ≡ at + length bytes

-- A gen call appends the canonical bytes of a value that has this size. A refusal is that of
-- measuring it, or out of memory, and leaves the vector as it was.
abbrev pub Appends : {X : Type 0} → List ℕ → List ℕ
    → Result ℕ GenError → List ℕ → Result X GenError → Type 0
Appends old new size bytes (Ok _) = (size ≡ Ok (length bytes)) × (new ≡ old ++ bytes)
Appends old new size bytes (Err errors.NoMemory) = new ≡ old
Appends old new size bytes (Err error) = (size ≡ Err error) × (new ≡ old)
