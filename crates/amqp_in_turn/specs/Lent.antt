-- What is kept of channels once a `&mut` to what is kept of one has ended.
use Rattle.std.specs.Prelude.{◌≡◌, ℕ, Option, IsSome}
use Rattle.std.specs.Borrow.{Fml, RattleType, MutBor, LendsSo}
use Rattle.std.specs.FinMap as finite
use Rattle.amqp_turns.specs.ByChannel.{ByChannel}
use Rattle.amqp_in_turn.specs.contracts.open_messages.OpenMessages as messages

module _ (T : RattleType) where
  -- of the channel is kept the last value written through r, and at `None` all stays as it is
  abbrev pub lends_held : MutBor (ByChannel T.Denot) → ℕ → Option (MutBor T.Denot) → Fml
  lends_held s channel r =
      LendsSo (messages.the_row T) T s r
      (λ n w. IsSome (finite.get s.now channel) → n ≡ finite.insert s.now channel w)
      (λ n. n ≡ s.now)
