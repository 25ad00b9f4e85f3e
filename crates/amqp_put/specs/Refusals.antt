-- Why a payload is not written.
use Rattle.std.specs.Prelude.{ℕ, ◌+◌, nat_lt, if◌then◌else◌, Option, Some, None}
use Rattle.amqp_entries.specs.declared.errors.PutError.{PutError}
use Rattle.amqp_entries.specs.declared.errors.PutError.TheVariants as errors

-- why a payload of n bytes that have this flaw is not written, where there is no room for what has
-- none and is not too large
abbrev pub refusal_of : Option PutError → ℕ → ℕ → PutError
refusal_of None n max = if nat_lt max n then errors.TooLarge else errors.BufferTooSmall (n + 8)
refusal_of (Some refusal) n max = refusal
