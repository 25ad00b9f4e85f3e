-- `few_string_end`: of the number of four bytes, the tag is the lowest byte.
use Rattle.std.proofs.Common.{arith}
use Rattle.amqp_entries.proofs.PlainValues.{few_string_part}
use Rattle.amqp_entries.proofs.ordered.few_string_end.Goals as goal

pub returns-else-i-end : goal.returns-else-i-end
returns-else-i-end c =
    let i = c.args.i.now in
    few_string_part c.args.depth_left c.args.at i (λ k. omega (arith, c.type_inv.i k)) c.requires (omega arith) (omega arith) (omega arith) (omega arith)
    (omega arith)
