-- Sizes as plain numbers, with what was counted before.
use Rattle.std.specs.Prelude.{◌≡◌, ℕ, ◌+◌, List, Option}
use Rattle.amqp_entries.specs.Sizes.{IsSize}
use Rattle.amqp_entries.specs.declared.errors.PutError.{PutError}

-- the size of some bytes with those before them
pub record IsSizeAfter (before : ℕ) (flaw : Option PutError) (bytes : List ℕ) (n : ℕ) : Type 0 where
  pub own : ℕ
  pub sum : n ≡ before + own
  pub is : IsSize flaw bytes own
