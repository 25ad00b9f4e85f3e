-- Nothing is put where it is not set.
use Rattle.std.proofs.Common.{Bool, ap}
use Rattle.amqp_types.proofs.Puts.{puts_none}
use Rattle.amqp_put.specs.Properties.{bytes_if}
use Rattle.amqp_put.proofs.properties.MaskedToProperty.put.Goals as goal

pub returns-else-self : goal.returns-else-self
returns-else-self g c = puts_none _ _ _ (ap (λ (set : Bool). bytes_if set (g.F.ToSlot.bytes c.args.self.now.field)) c.if-self.false)
