-- The properties of a pair, put one after another.
use Rattle.amqp_types.proofs.Puts.{puts_then}
use Rattle.amqp_put.proofs.properties.Tuple2ToProperties.put.Goals as goal

pub returns : goal.returns
returns g c = puts_then _ _ _ _ _ _ _ _ c.requires.room c.put-place.ensures c.put.ensures
