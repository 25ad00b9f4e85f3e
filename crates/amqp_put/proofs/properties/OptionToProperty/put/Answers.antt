-- Nothing is put where it is not there.
use Rattle.std.proofs.Common.{[], List, ℕ, ap}
use Rattle.amqp_types.proofs.Puts.{puts_none}
use Rattle.amqp_put.specs.Properties.{where_some}
use Rattle.amqp_put.proofs.properties.OptionToProperty.put.Goals as goal

pub returns-in-None : goal.returns-in-None
returns-in-None g c = puts_none _ _ _ (ap (where_some {B = List ℕ} [] g.F.ToSlot.bytes) c.in-None.is)
