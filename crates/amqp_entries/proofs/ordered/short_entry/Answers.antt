-- `short_entry`: a key, and a canonical value after it.
use Rattle.std.proofs.Common.{arith}
use Rattle.std.proofs.lemmas.List.{take_rest}
use Rattle.amqp_entries.proofs.PlainValues.{entry_front}
use Rattle.amqp_entries.proofs.ordered.short_entry.Goals as goal

pub returns : goal.returns
returns c =
    let value = rw take_rest at c.in-Some-value_size.ensures in
    entry_front c.args.depth_left c.args.i.now c.in-Some.key.now _ _ (λ k. omega (arith, c.type_inv.i k)) c.are_bytes.ensures c.in-Some.ensures.key
    c.in-Some.ensures.few c.first_four.ensures.is c.first_four.ensures.few value
