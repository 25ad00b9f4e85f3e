-- What is kept of channels once a `&mut` to a value has ended.
use Rattle.std.specs.Prelude.{◌≡◌, ℕ, List, Option}
use Rattle.std.specs.Borrow.{Fml, RattleType, MutBor, LendsIf, LendsSo}
use Rattle.std.specs.BTreeMap.{is_at}
use Rattle.std.specs.Map.{set_value}
use Rattle.std.specs.Ordering.{nat_cmp}
use Rattle.std.specs.contracts.option.Option as options
use Rattle.amqp_turns.specs.declared.channels.Entry.{Entry}
use Rattle.amqp_turns.specs.contracts.channels.Entry as entries
use Rattle.amqp_turns.specs.contracts.channels.Channels as channels
use Rattle.amqp_turns.specs.LastEntry.{with_value}

module _ (T : RattleType) where
  -- the entry that lies apart has the last value written through r, and at `None` it stays as it is
  abbrev pub lends_last : MutBor (Option (Entry T.Denot)) → Option (MutBor T.Denot) → Fml
  lends_last s r = LendsIf (options.the_row (entries.the_row T)) T s r (with_value s.now) s.now

  -- the channel has the last value written through r, and at `None` all stays as it is
  abbrev pub lends_value : MutBor (List (ℕ × T.Denot)) → ℕ → Option (MutBor T.Denot) → Fml
  lends_value s channel r =
      LendsSo (channels.the_row T) T s r
      (λ n w. n ≡ set_value (is_at (nat_cmp channel)) s.now w) (λ n. n ≡ s.now)
