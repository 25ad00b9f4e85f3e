-- A length, and the canonical content.
use Rattle.amqp_types.specs.ValueBytes.{table_bytes}
use Rattle.amqp_entries.proofs.table_content.TableContent.put.Goals as goal

pub put_table_content-requires-clause-room : goal.put_table_content-requires-clause-room
unfolding table_bytes
put_table_content-requires-clause-room c = c.requires.room

pub returns : goal.returns
unfolding table_bytes
returns c = c.put_table_content.ensures
