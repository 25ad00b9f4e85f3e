-- `spelled_properties_are_bounded`: what it ensures.
use Rattle.amqp_laws.proofs.PropertyLaws.{properties_bounded}
use Rattle.amqp_properties.proofs.laws.spelled_properties_are_bounded.Goals as goal

pub returns : goal.returns
returns c = properties_bounded
