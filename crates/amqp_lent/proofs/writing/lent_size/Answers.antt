-- `lent_size`: what it ensures.
use Rattle.std.proofs.Common.{arith}
use Rattle.amqp_lent.proofs.writing.lent_size.Goals as goal

pub returns : goal.returns
returns c = λ read stands. let put = c.put_lent.ensures read stands in omega (arith, put.behind)
