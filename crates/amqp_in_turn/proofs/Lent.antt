-- What is kept of channels, once what is kept of one was changed in its place.
use Rattle.std.proofs.lemmas.Grind.{common_steps}
use Rattle.std.proofs.Common.{arith, ◌≡◌, ℕ, List, Option, Some, None}
use Rattle.std.specs.Prelude.{IsSome}
use Rattle.std.specs.FinMap as finite
use Rattle.std.specs.Map.{set_value}
use Rattle.std.specs.Ordering.{nat_cmp}
use Rattle.std.specs.BTreeMap.{is_at}
use Rattle.amqp_turns.specs.ByChannel.{ByChannel}
use Rattle.amqp_turns.specs.Stands.{kept_at}
use Rattle.amqp_turns.proofs.Entries.{kept-set_same, kept-set_other}
use Rattle.amqp_turns.proofs.Holding.{holding_of, get-holding, holding_updated}

module _ {K : Type 0} where
  set_there : (es : List (ℕ × K)) (channel : ℕ) (w : K) (found : Option K) → kept_at es channel ≡ found
      → IsSome found → holding_of (set_value (is_at (nat_cmp channel)) es w) ≡ finite.insert (holding_of es) channel w
  set_there es channel w (Some v) e there =
      holding_updated es (set_value (is_at (nat_cmp channel)) es w) channel (Some w) (kept-set_same es channel v w e) (kept-set_other es channel w)
  set_there es channel w None e there = absurd cc

  -- A value that is written in the place of the one that is kept of a channel is kept of it then, and of others what was.
  pub holding_written : (es new : List (ℕ × K)) (holding : ByChannel K) (channel : ℕ) (w : K) → holding_of es ≡ holding
      → new ≡ set_value (is_at (nat_cmp channel)) es w → IsSome (finite.get holding channel) → holding_of new ≡ finite.insert holding channel w
  holding_written es new holding channel w view is there = grind (arith, common_steps, get-holding, holding_of, set_there)
