-- `values_are_lawful`: what it ensures.
use Rattle.amqp_laws.proofs.ValueLaws.{values_lawful}
use Rattle.amqp_values.proofs.laws.values_are_lawful.Goals as goal

pub returns : goal.returns
returns c = values_lawful
