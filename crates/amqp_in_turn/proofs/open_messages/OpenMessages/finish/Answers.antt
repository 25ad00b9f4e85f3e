-- `OpenMessages::finish`: what it ensures.
use Rattle.amqp_in_turn.proofs.Least.{least_is}
use Rattle.amqp_in_turn.proofs.open_messages.OpenMessages.finish.Goals as goal

pub returns-in-None : goal.returns-in-None
returns-in-None g c =
    rw (← c.self.view_is, least_is c.self.inside.channels c.least.result c.least.ensures.none c.least.ensures.kept c.least.ensures.least, c.in-None.is)

pub returns-in-Some : goal.returns-in-Some
returns-in-Some g c =
    rw (← c.self.view_is, least_is c.self.inside.channels c.least.result c.least.ensures.none c.least.ensures.kept c.least.ensures.least, c.in-Some.is)
