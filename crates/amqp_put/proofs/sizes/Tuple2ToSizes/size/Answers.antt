-- The sizes of a pair, added.
use Rattle.amqp_put.proofs.SizesAdded.{both_after}
use Rattle.amqp_put.proofs.sizes.Tuple2ToSizes.size.Goals as goal

pub returns-clause-size : goal.returns-clause-size
returns-clause-size g c = both_after _ _ _ _ _ _ _ c.size-place.ensures.size c.size.ensures.size
