-- `twice_is_once`: what it ensures.
use Rattle.amqp_filter.proofs.LawsStates.{twice_is_once}
use Rattle.amqp_filter.proofs.laws.twice_is_once.Goals as goal

pub returns : goal.returns
returns c = twice_is_once
