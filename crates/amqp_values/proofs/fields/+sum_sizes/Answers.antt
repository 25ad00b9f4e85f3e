-- `sum_sizes`, which calls itself: what they ensure.
use Rattle.std.proofs.Common.{false, refl, ◌∙◌, arith}
use Rattle.std.proofs.lemmas.Slice.{first_rest}
use Rattle.amqp_values.proofs.FieldLists.{size_none_short, size_more}
use Rattle.amqp_values.proofs.fields.+sum_sizes.Goals as goal

pub returns-in-empty-clause-size : goal.returns-in-empty-clause-size
returns-in-empty-clause-size t c = λ h. size_none_short c.args.before false c.args.fields.now refl (omega (arith, c.in-empty.len_below))

pub returns-in-Ok-clause-size : goal.returns-in-Ok-clause-size
returns-in-Ok-clause-size t c = λ h.
    let split = first_rest c.args.fields.now c.first-item.result (omega (arith, c.in-len1-up.len_at_least)) in
    c.sum_sizes.ensures.size h
    ∙ size_more c.args.before c.in-Ok.n false c.args.fields.now _ c.first-item.result (rw (← c.first-item.is) at split) c.in-Ok.ensures.size
