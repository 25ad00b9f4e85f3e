-- `put_text_ends`: one put after another.
use Rattle.amqp_types.proofs.Puts.{puts_then}
use Rattle.amqp_entries.proofs.puts.put_text_ends.Goals as goal

pub returns : goal.returns
returns g c = puts_then _ _ _ _ _ _ _ _ c.requires.room c.put_bytes-place.ensures c.put_ends.ensures
