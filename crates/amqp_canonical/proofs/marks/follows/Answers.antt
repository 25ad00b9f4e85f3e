-- `follows`: what it ensures.
use Rattle.std.proofs.Common.{inl, inr, arith}
use Rattle.amqp_canonical.proofs.marks.follows.Goals as goal

pub returns-then-ascends : goal.returns-then-ascends
returns-then-ascends c = λ t. inl (c.ascends.ensures c.if-ascends.true)

pub returns : goal.returns
returns c = λ same. inr (c.is_same.ensures.0 same, omega (arith, c.if-previous-mark.false))
