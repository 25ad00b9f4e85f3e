-- `equal_field_tables`: what it ensures.
use Rattle.amqp_values.proofs.Deciding.{same_tables}
use Rattle.amqp_values.proofs.equality.equal_field_tables.Goals as goal

pub returns : goal.returns
returns c = rw c.eq.ensures (same_tables c.args.a.now c.args.b.now)
