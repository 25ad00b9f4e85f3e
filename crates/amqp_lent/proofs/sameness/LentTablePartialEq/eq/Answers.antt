-- `==` of `LentTable`: what it ensures.
use Rattle.amqp_lent.proofs.Same.{entries_answer}
use Rattle.amqp_lent.proofs.sameness.LentTablePartialEq.eq.Goals as goal

pub returns : goal.returns
returns c = entries_answer _ _ _ c.is_same_table.ensures
