-- `equal_values`: what it ensures.
use Rattle.amqp_values.specs.Views.{value_of}
use Rattle.amqp_values.specs.Sameness.{same_value-decides}
use Rattle.amqp_values.proofs.equality.equal_values.Goals as goal

pub returns : goal.returns
returns c = rw c.eq.ensures (same_value-decides (value_of c.args.a.now) (value_of c.args.b.now))
