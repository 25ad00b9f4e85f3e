-- `OpenMessages::is_empty`: what it ensures.
use Rattle.std.proofs.Common.{◌∙◌}
use Rattle.amqp_turns.proofs.Holding.{holding_empty}
use Rattle.amqp_in_turn.proofs.open_messages.OpenMessages.is_empty.Goals as goal

pub returns : goal.returns
returns g c = rw (← c.self.view_is) (c.self.invariant ∙ holding_empty c.self.inside.channels)
