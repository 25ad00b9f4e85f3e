-- `settled_is_settling`: what it ensures.
use Rattle.amqp_laws.proofs.ValueLaws.{settled_is_settling}
use Rattle.amqp_values.proofs.laws.settled_is_settling.Goals as goal

pub returns : goal.returns
returns c = settled_is_settling
