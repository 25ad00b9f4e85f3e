-- `numbers_decide_alike`: what it ensures.
use Rattle.amqp_c.proofs.RuleNumbers.{decide_alike}
use Rattle.amqp_c.proofs.laws.numbers_decide_alike.Goals as goal

pub returns : goal.returns
returns c = decide_alike
