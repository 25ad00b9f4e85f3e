-- `little_is_left`: what it ensures.
use Rattle.amqp_c.proofs.Feeding.{little_is_left}
use Rattle.amqp_c.proofs.laws.little_is_left.Goals as goal

pub returns : goal.returns
returns c = little_is_left
