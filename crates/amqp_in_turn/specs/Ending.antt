-- Where a stream may not end: a message is open on some channel.
use Rattle.std.specs.Prelude.{ℕ, slice_get, Option, Some, None}
use Rattle.std.specs.FinMap as finite
use Rattle.amqp_turns.specs.ByChannel.{ByChannel}
use Rattle.amqp_in_turn.specs.declared.errors.Refusal.{Refusal}
use Rattle.amqp_in_turn.specs.declared.errors.Refusal.TheVariants as refusals

-- the least channel of which something is kept: `keys` has them in order
abbrev pub least_channel : {K : Type 0} → ByChannel K → Option ℕ
least_channel holding = slice_get (finite.keys holding) 0

-- why a stream may not end, by the least channel on which a message is open
abbrev pub refused_at_end : Option ℕ → Option Refusal
refused_at_end None = None
refused_at_end (Some channel) = Some (refusals.OpenContent channel)
