-- How many bytes are written, or why none are.
use Rattle.std.specs.Prelude.{ℕ, Bool, List, length, if◌then◌else◌, Result, Ok, Err}
use Rattle.amqp_types.specs.declared.errors.GenError.{GenError}
use Rattle.amqp_types.specs.declared.errors.GenError.TheVariants as errors

-- A value is refused where it nests too deep, and else where four bytes do not hold one
-- of its lengths.
abbrev pub measured : Bool → Bool → List ℕ → Result ℕ GenError
measured deep long bytes =
    if deep then Err errors.TooDeep else (if long then Err errors.TooLong else Ok (length bytes))
