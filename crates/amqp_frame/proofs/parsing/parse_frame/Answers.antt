-- `parse_frame`: clause `within`.
use Rattle.std.proofs.Common.{arith}
use Rattle.amqp_frame.proofs.Within.{frame_within}
use Rattle.amqp_frame.proofs.parsing.parse_frame.Goals as goal

pub returns-clause-within : goal.returns-clause-within
returns-clause-within c = frame_within c.args.i.now _ (λ i. omega (arith, c.type_inv.i i)) c.read_frame.ensures.judged
