-- What a call that makes a frame returns, and what it leaves in the slice.
use Rattle.std.specs.Prelude.{◌≡◌, ℕ, ◌+◌, nat_lt, List, length, if◌then◌else◌}
use Rattle.std.specs.Prelude.{Option, Some, None, Result, Ok, Err}
use Rattle.amqp_types.specs.Methods.{Method, payload_bytes}
use Rattle.amqp_types.specs.Writing.{written}
use Rattle.amqp_wire.specs.Canonical.{canon}
use Rattle.amqp_wire.specs.Frames.{Meth}
use Rattle.amqp_entries.specs.Flaws.{first_of}
use Rattle.amqp_entries.specs.declared.errors.PutError.{PutError}
use Rattle.amqp_entries.specs.declared.errors.PutError.TheVariants as errors

-- why a payload of n bytes is not written where a peer takes max and a slice has room for so many
abbrev pub size_flaw : ℕ → ℕ → ℕ → Option PutError
size_flaw n max room = if nat_lt max n then Some errors.TooLarge else
    (if nat_lt room (n + 8) then Some (errors.BufferTooSmall (n + 8)) else None)

-- the bytes at the front and their number, or the refusal and the slice as it was
abbrev pub MakesBytes : List ℕ → List ℕ → Option PutError → List ℕ → Result ℕ PutError → Type 0
MakesBytes old new flaw bytes (Ok n) =
    (flaw ≡ None) × (n ≡ length bytes) × (new ≡ written old 0 bytes)
MakesBytes old new flaw bytes (Err refusal) = (flaw ≡ Some refusal) × (new ≡ old)

-- The canonical bytes of the frame of a method whose fields have this flaw.
abbrev pub MakesMethod : List ℕ → List ℕ → ℕ → ℕ → Method → Option PutError → Result ℕ PutError
    → Type 0
MakesMethod old new channel max m flaw result =
    MakesBytes old new (first_of flaw (size_flaw (length (payload_bytes m)) max (length old)))
    (canon (Meth channel m)) result
