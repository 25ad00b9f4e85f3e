-- `plain_end`: 0 or 1, or a number, which may be any bytes.
use Rattle.std.proofs.Common.{arith}
use Rattle.amqp_entries.proofs.PlainValues.{boolean_part, number_part}
use Rattle.amqp_entries.proofs.ordered.plain_end.Goals as goal

pub returns-else-i-at-gt1 : goal.returns-else-i-at-gt1
returns-else-i-at-gt1 c = boolean_part c.args.depth_left c.args.at c.args.i.now c.requires (omega arith) (omega arith)

pub returns : goal.returns
returns c =
    let i = c.args.i.now in
    number_part c.args.depth_left c.args.at i c.number_size_after-n.result (λ k. omega (arith, c.type_inv.i k)) c.requires
    (c.number_size_after-n.ensures.size (omega arith)) (omega arith)
