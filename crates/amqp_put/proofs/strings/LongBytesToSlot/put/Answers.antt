-- A length, and the bytes after it.
use Rattle.amqp_types.proofs.Puts.{puts_then}
use Rattle.amqp_put.proofs.strings.LongBytesToSlot.put.Goals as goal

pub returns : goal.returns
returns c = puts_then _ _ _ _ _ _ _ _ c.requires.room c.put_long_uint-place.ensures c.put_bytes.ensures
