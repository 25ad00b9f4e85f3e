-- What is kept of each channel of which something is.
use Rattle.std.specs.Prelude.{ℕ, Option, Some, None}
use Rattle.std.specs.FinMap as finite
use Rattle.std.specs.Ordering.{nat_cmp}

-- what is kept, by channel
abbrev pub ByChannel : Type 0 → Type 0
ByChannel K = finite.FinMap nat_cmp K

-- what is kept once this is kept of a channel, in the place of what was; of None nothing
abbrev pub set_at : {K : Type 0} → ByChannel K → ℕ → Option K → ByChannel K
set_at holding channel None = finite.remove holding channel
set_at holding channel (Some held) = finite.insert holding channel held
