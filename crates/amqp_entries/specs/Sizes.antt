-- Sizes as plain numbers.
use Rattle.std.specs.Prelude.{◌≡◌, ◌≤◌, ◌^◌, ℕ, List, length, Option, Some, None}
use Rattle.amqp_entries.specs.declared.errors.PutError.{PutError}

-- the number of bytes, or 2^32 and more, as no frame has, where they are not put
abbrev pub IsSize : Option PutError → List ℕ → ℕ → Type 0
IsSize None bytes n = n ≡ length bytes
IsSize (Some refusal) bytes n = 2 ^ 32 ≤ n
