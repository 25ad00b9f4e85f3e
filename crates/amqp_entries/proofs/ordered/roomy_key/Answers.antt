-- `roomy_key`: ASCII is decoded as a short string.
use Rattle.std.proofs.Common.{arith}
use Rattle.std.proofs.lemmas.List.{length-drop, take_rest}
use Rattle.amqp_entries.proofs.KeysInOrder.{front_key}
use Rattle.amqp_entries.proofs.ordered.roomy_key.Goals as goal

pub returns-then-is_short_key-clause-key : goal.returns-then-is_short_key-clause-key
returns-then-is_short_key-clause-key c =
    let i = c.args.i.now in
    let ascii = rw take_rest at (c.is_short_key.ensures.ascii c.if-is_short_key.true) in
    rw take_rest (front_key i c.in-len1-up.len_at_least (omega (arith, c.if-i-n.false, length-drop 1 i)) ascii)
