-- `Channels::is_empty`: what it ensures.
use Rattle.amqp_turns.proofs.LastEntry.{some_seen}
use Rattle.amqp_turns.proofs.channels.Channels.is_empty.Goals as goal

pub returns-in-Some : goal.returns-in-Some
returns-in-Some g c = some_seen _ _ _ c.self.view_is c.in-Some.field-0 c.in-Some.is
