-- `OpenMessages::get`: what it ensures.
use Rattle.amqp_turns.proofs.Holding.{get-holding}
use Rattle.amqp_in_turn.proofs.open_messages.OpenMessages.get.Goals as goal

pub returns : goal.returns
returns g c = rw (← c.self.view_is, get-holding) c.get.ensures
