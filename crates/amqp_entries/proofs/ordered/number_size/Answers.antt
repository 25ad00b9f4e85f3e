-- `number_size`: a number, which may be any bytes.
use Rattle.std.proofs.Common.{◌≤◌, length, drop, arith}
use Rattle.std.proofs.lemmas.List.{take_rest}
use Rattle.amqp_entries.proofs.PlainValues.{number_front}
use Rattle.amqp_entries.proofs.ordered.number_size.Goals as goal

pub returns-else-rest-n : goal.returns-else-rest-n
returns-else-rest-n c =
    let i = c.args.i.now in
    let n = c.number_size_after-n.result in
    let enough : n ≤ length (drop 1 i) = rw take_rest at c.if-rest-n.false in
    number_front c.args.depth_left i n (λ k. omega (arith, c.type_inv.i k)) (omega (arith, c.in-len1-up.len_at_least))
    (c.number_size_after-n.ensures.size (omega (arith, c.if-n-eq0.false))) enough
