-- The entries of channels, where one lies apart from the others.
use Rattle.std.specs.Prelude.{◌≡◌, ◌==◌, ℕ, Bool, false, List, length, Option, Some, None}
use Rattle.std.specs.BTreeMap.{insert_entry}
use Rattle.std.specs.Ordering.{nat_cmp}
use Rattle.amqp_turns.specs.declared.channels.Entry.{Entry}
use Rattle.amqp_turns.specs.Stands.{kept_at}

module _ {T : Type 0} where
  -- an entry lies apart, and it is of this channel
  abbrev pub is_of : Option (Entry T) → ℕ → Bool
  is_of None channel = false
  is_of (Some last) channel = last.channel_id == channel

  -- it is of this channel, or there is no entry at all
  abbrev pub takes : Option (Entry T) → List (ℕ × T) → ℕ → Bool
  takes None others channel = length others == 0
  takes (Some last) others channel = last.channel_id == channel

  -- it has this value
  abbrev pub with_value : Option (Entry T) → T → Option (Entry T)
  with_value None w = None
  with_value (Some last) w = Some (record last { value = w })

  -- all entries, sorted by their channels
  abbrev pub with_last : Option (Entry T) → List (ℕ × T) → List (ℕ × T)
  with_last None others = others
  with_last (Some last) others = insert_entry nat_cmp others last.channel_id last.value

  -- the others are sorted by their channels, each once
  -- the channel of the entry that lies apart has no other
  abbrev pub IsApart : Option (Entry T) → List (ℕ × T) → Type 0
  IsApart None others = Unit {0}
  IsApart (Some last) others = kept_at others last.channel_id ≡ None
