-- `size_after`, which calls itself: what they ensure.
use Rattle.std.proofs.Common.{◌∙◌, arith}
use Rattle.std.proofs.lemmas.Slice.{first_rest}
use Rattle.amqp_values.proofs.FieldLists.{size_none_long, size_none_short, size_more, size_deep, size_long}
use Rattle.amqp_values.proofs.fields.+size_after.Goals as goal

pub returns-then-long-clause-size : goal.returns-then-long-clause-size
returns-then-long-clause-size t c = size_none_long c.args.before c.args.long c.args.fields.now c.if-long.true (omega (arith, c.in-empty.len_below))

pub returns-else-long-clause-size : goal.returns-else-long-clause-size
returns-else-long-clause-size t c = size_none_short c.args.before c.args.long c.args.fields.now c.if-long.false (omega (arith, c.in-empty.len_below))

pub returns-in-Ok-clause-size : goal.returns-in-Ok-clause-size
returns-in-Ok-clause-size t c =
    let split = first_rest c.args.fields.now c.first-item.result (omega (arith, c.in-len1-up.len_at_least)) in
    c.size_after.ensures.size
    ∙ size_more c.args.before c.in-Ok.n c.args.long c.args.fields.now _ c.first-item.result (rw (← c.first-item.is) at split) c.in-Ok.ensures.size

pub returns-in-TooLong-clause-size : goal.returns-in-TooLong-clause-size
returns-in-TooLong-clause-size t c =
    let split = first_rest c.args.fields.now c.first-item.result (omega (arith, c.in-len1-up.len_at_least)) in
    c.size_after-in-TooLong.ensures.size
    ∙ size_long c.args.before c.args.long c.args.fields.now _ c.first-item.result (rw (← c.first-item.is) at split)
    (rw c.in-TooLong.is at c.in-Err.ensures.size)

pub returns-in_default : goal.returns-in_default
returns-in_default t c =
    let split = first_rest c.args.fields.now c.first-item.result (omega (arith, c.in-len1-up.len_at_least)) in
    record {
      size = size_deep c.args.before c.args.long c.args.fields.now _ c.first-item.result c.in-Err.error (rw (← c.first-item.is) at split)
          c.in_default.not-TooLong c.in-Err.ensures.size;
      bound = tt;
    }
