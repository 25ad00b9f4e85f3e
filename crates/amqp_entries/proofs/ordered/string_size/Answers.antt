-- `string_size`: a length, and as many bytes, whatever they are.
use Rattle.std.proofs.Common.{◌≡◌, ◌≤◌, get_or, length, drop, arith}
use Rattle.std.proofs.lemmas.List.{take_rest}
use Rattle.amqp_entries.proofs.PlainValues.{string_front}
use Rattle.amqp_entries.proofs.ordered.string_size.Goals as goal

pub returns-in-Ok : goal.returns-in-Ok
returns-in-Ok c =
    let i = c.args.i.now in
    let judged = rw take_rest at c.in-Ok.ensures.judged in
    let enough : c.in-Ok.n ≤ length (drop 1 i) = rw take_rest at c.in-Ok.ensures.used in
    let tag : get_or i 0 0 ≡ 83 = omega (arith, c.if-tag-ne-TAG_LONG_STRING.false) in
    string_front c.args.depth_left i c.in-Ok.field-0-1.now c.in-Ok.n (λ k. omega (arith, c.type_inv.i k)) (omega (arith, c.in-len1-up.len_at_least))
    tag judged enough
