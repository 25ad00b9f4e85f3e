-- What a call that appends to a content returns, and what it leaves in the slice.
use Rattle.std.specs.Prelude.{◌≡◌, ◌+◌, ◌-◌, ◌^◌, ℕ, nat_lt, min, List, length, if◌then◌else◌}
use Rattle.std.specs.Prelude.{Option, Some, None, Result, Ok, Err}
use Rattle.amqp_types.specs.Writing.{Puts}
use Rattle.amqp_types.specs.Values.{FieldValue}
use Rattle.amqp_types.specs.ValueBytes.{tagged_bytes}
use Rattle.amqp_canonical.specs.Writes.{entry_bytes}
use Rattle.amqp_entries.specs.Flaws.{first_of, text_flaw}
use Rattle.amqp_entries.specs.declared.errors.PutError.{PutError}
use Rattle.amqp_entries.specs.declared.errors.PutError.TheVariants as errors

-- bytes from a place on end within a slice of this length; the end is told, at most as the largest
-- number of 64 bits
abbrev pub room_flaw : ℕ → ℕ → ℕ → Option PutError
room_flaw at size room = if nat_lt room (at + size) then Some
    (errors.BufferTooSmall (min (at + size) (2 ^ 64 - 1))) else None

-- The bytes at the place and the place after them, or the first refusal, and the slice as it was.
abbrev pub Appends : List ℕ → List ℕ → ℕ → Option PutError → List ℕ → Result ℕ PutError → Type 0
Appends old new at flaw bytes (Ok end) =
    (first_of flaw (room_flaw at (length bytes) (length old)) ≡ None) × Puts old new at bytes end
Appends old new at flaw bytes (Err refusal) =
    (first_of flaw (room_flaw at (length bytes) (length old)) ≡ Some refusal) × (new ≡ old)

-- An entry: its key, and after it its value, which has this flaw.
abbrev pub AppendsEntry : List ℕ → List ℕ → ℕ → List ℕ → FieldValue → Option PutError
    → Result ℕ PutError → Type 0
AppendsEntry old new at key value flaw result =
    Appends old new at (first_of (text_flaw key) flaw) (entry_bytes (key, value)) result

-- A value of an array, which has this flaw.
abbrev pub AppendsValue : List ℕ → List ℕ → ℕ → FieldValue → Option PutError → Result ℕ PutError
    → Type 0
AppendsValue old new at value flaw result = Appends old new at flaw (tagged_bytes value) result
