-- What numbers and bytes hold may stand in a table or an array.
use Rattle.std.proofs.Common.{◌≡◌, ◌<◌, ℕ, ℤ, Bool, FitsSigned, List, ◌∷◌, true, false, if◌then◌else◌, Some, None, Result, refl, arith}
use Rattle.std.specs.Prelude.{IfOk}
use Rattle.amqp_types.specs.Numbers.{bytes1, bytes4, width_of, number_limit}
use Rattle.amqp_types.specs.Strings.{is_too_long, with_length}
use Rattle.amqp_types.specs.Values.{SignedKind, UnsignedKind, BytesKind, boolean_value, signed_value, unsigned_value, decimal_value, bytes_value, void_value}
use Rattle.amqp_types.specs.ValueBytes.{signed_width, unsigned_width}
use Rattle.amqp_laws.proofs.Held.{value_held}
use Rattle.amqp_entries.specs.Flaws.{long_flaw, size_or}
use Rattle.amqp_entries.specs.Written.{IsWritten}
use Rattle.amqp_entries.specs.declared.errors.PutError.{PutError}
use Rattle.amqp_entries.specs.declared.errors.PutError.TheVariants as errors

-- each truth value may stand in a table
pub boolean_written : (b : Bool) → IsWritten (boolean_value b)
boolean_written b = record { spelled = value_held 63 (boolean_value b) tt refl (omega arith) }

-- a signed number of its width may stand in a table
pub signed_written : (kind : SignedKind) (n : ℤ) → FitsSigned (width_of (signed_width kind)) n → IsWritten (signed_value kind n)
signed_written kind n h = record { spelled = value_held 63 (signed_value kind n) h refl (omega arith) }

-- an unsigned number of its width may stand in a table
pub unsigned_written : (kind : UnsignedKind) (n : ℕ) → n < number_limit (unsigned_width kind) → IsWritten (unsigned_value kind n)
unsigned_written kind n h = record { spelled = value_held 63 (unsigned_value kind n) h refl (omega arith) }

-- a scale of one byte with a number of four may stand in a table
pub decimal_written : (scale n : ℕ) → scale < number_limit bytes1 → n < number_limit bytes4 → IsWritten (decimal_value scale n)
decimal_written scale n low few = record { spelled = value_held 63 (decimal_value scale n) (low, few) refl (omega arith) }

-- the void value may stand in a table
pub void_written : IsWritten void_value
void_written = record { spelled = value_held 63 void_value tt refl (omega arith) }

-- what has a size is written
sized : (kind : BytesKind) (bytes : List ℕ) (long : Bool) (size : Result ℕ PutError) → is_too_long bytes ≡ long
    → size ≡ size_or (if long then Some errors.TooLong else None) (0 ∷ with_length bytes) → IfOk size (λ _. IsWritten (bytes_value kind bytes))
sized kind bytes true size e h = rw h tt
sized kind bytes false size e h = rw h (record { spelled = value_held 63 (bytes_value kind bytes) tt e (omega arith) })

-- bytes that have a size may stand in a table
pub bytes_written : (kind : BytesKind) (bytes : List ℕ) (size : Result ℕ PutError) → size ≡ size_or (long_flaw bytes) (0 ∷ with_length bytes)
    → IfOk size (λ _. IsWritten (bytes_value kind bytes))
bytes_written kind bytes size h = sized kind bytes (is_too_long bytes) size refl h
