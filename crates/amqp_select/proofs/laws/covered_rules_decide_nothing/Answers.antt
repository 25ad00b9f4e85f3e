-- `covered_rules_decide_nothing`: what it ensures.
use Rattle.amqp_select.proofs.Covered.{kept_same}
use Rattle.amqp_select.proofs.laws.covered_rules_decide_nothing.Goals as goal

pub returns : goal.returns
returns c = kept_same
