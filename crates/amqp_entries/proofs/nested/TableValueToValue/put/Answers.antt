-- A tag, and the content with its length after it.
use Rattle.amqp_types.proofs.Puts.{puts_then}
use Rattle.amqp_entries.proofs.nested.TableValueToValue.put.Goals as goal

pub returns : goal.returns
returns c = puts_then _ _ _ _ _ _ _ _ c.requires.room c.put_bytes-place.ensures c.put_table_content.ensures
