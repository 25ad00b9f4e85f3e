-- `size_fields`: the size after no bytes.
use Rattle.std.proofs.Common.{◌∙◌}
use Rattle.amqp_values.proofs.FieldLists.{size_all}
use Rattle.amqp_values.proofs.fields.size_fields.Goals as goal

pub returns-clause-size : goal.returns-clause-size
returns-clause-size c = c.size_after.ensures.size ∙ size_all c.args.fields.now

pub returns-then-size-clause-size : goal.returns-then-size-clause-size
returns-then-size-clause-size c = c.sum_sizes-size.ensures.size c.if-size.true ∙ size_all c.args.fields.now
