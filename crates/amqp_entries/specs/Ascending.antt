-- Canonical entries in ascending key order in front of a place of a content.
use Rattle.std.specs.Prelude.{◌≡◌, ◌<◌, ◌≤◌, ◌+◌, ℕ, true, List, length, drop}
use Rattle.amqp_types.specs.Judging.{IsBytes}
use Rattle.amqp_canonical.specs.Leads.{leading}
use Rattle.amqp_canonical.proofs.Children.{EntriesTo}

-- The entries up to a place are canonical, and the next key comes after them where its first four
-- bytes make at least this number.
pub record Ascending (depth : ℕ) (content : List ℕ) (at lowest : ℕ) : Type 0 where
  pub previous : List ℕ
  pub bytes : IsBytes previous
  pub entries : EntriesTo depth content at previous true
  pub over : 0 < at → lowest ≡ leading 4 previous + 1

-- the entries in front of what is left of a content are such
pub record AscendingTo (depth : ℕ) (content rest : List ℕ) (lowest : ℕ) : Type 0 where
  pub at : ℕ
  pub within : at ≤ length content
  pub rest_is : rest ≡ drop at content
  pub entries : Ascending depth content at lowest
