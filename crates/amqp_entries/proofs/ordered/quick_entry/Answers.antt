-- `quick_entry`: a key, and a canonical value after it.
use Rattle.std.proofs.Common.{arith}
use Rattle.amqp_entries.proofs.PlainValues.{entry_of_part}
use Rattle.amqp_entries.proofs.ordered.quick_entry.Goals as goal

pub returns-in-Some-few_string_end : goal.returns-in-Some-few_string_end
returns-in-Some-few_string_end c =
    entry_of_part c.args.depth_left c.args.i.now c.in-Some.key.now _ _ (λ k. omega (arith, c.type_inv.i k)) c.are_bytes.ensures c.in-Some.ensures.key
    (omega (arith, c.in-Some.ensures.room)) c.first_four.ensures.is c.first_four.ensures.few c.in-Some-few_string_end.ensures

pub returns-in-Some-plain_end : goal.returns-in-Some-plain_end
returns-in-Some-plain_end c =
    entry_of_part c.args.depth_left c.args.i.now c.in-Some.key.now _ _ (λ k. omega (arith, c.type_inv.i k)) c.are_bytes.ensures c.in-Some.ensures.key
    (omega (arith, c.in-Some.ensures.room)) c.first_four-in-Some-plain_end.ensures.is c.first_four-in-Some-plain_end.ensures.few
    c.in-Some-plain_end.ensures
