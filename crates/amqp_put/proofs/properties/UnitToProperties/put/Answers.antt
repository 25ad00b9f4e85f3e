-- Nothing is put.
use Rattle.std.proofs.Common.{[], refl}
use Rattle.amqp_types.proofs.Puts.{puts_none}
use Rattle.amqp_put.proofs.properties.UnitToProperties.put.Goals as goal

pub returns : goal.returns
returns c = puts_none _ _ [] refl
