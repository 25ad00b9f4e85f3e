-- `==` of `LentArray`: what it ensures.
use Rattle.amqp_lent.proofs.Same.{items_answer}
use Rattle.amqp_lent.proofs.sameness.LentArrayPartialEq.eq.Goals as goal

pub returns : goal.returns
returns c = items_answer _ _ _ c.is_same_array.ensures
