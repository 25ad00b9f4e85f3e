-- `BoundedAssembler::open`: nothing is held.
use Rattle.std.proofs.Common.{arith}
use Rattle.amqp_content.proofs.Counting.{none_open}
use Rattle.amqp_content.proofs.bounded.BoundedAssembler.open.Goals as goal

pub invariant_of-result : goal.invariant_of-result
invariant_of-result c = (none_open c.open.result c.open.ensures.channels, (omega arith, tt))
