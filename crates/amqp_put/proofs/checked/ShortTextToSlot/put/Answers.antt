-- A length, and the text after it.
use Rattle.amqp_types.proofs.Puts.{puts_then}
use Rattle.amqp_put.proofs.checked.ShortTextToSlot.put.Goals as goal

pub returns : goal.returns
returns c = puts_then _ _ _ _ _ _ _ _ c.requires.room c.put_bytes-place.ensures c.put_few.ensures
