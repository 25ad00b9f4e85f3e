-- `==` of `LentValue`: what it ensures.
use Rattle.amqp_lent.proofs.Same.{value_answer}
use Rattle.amqp_lent.proofs.sameness.LentValuePartialEq.eq.Goals as goal

pub returns : goal.returns
returns c = value_answer _ _ _ c.is_same_value.ensures
