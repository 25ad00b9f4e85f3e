-- `entries_size`: canonical content is no longer than the content.
use Rattle.std.proofs.Common.{arith}
use Rattle.amqp_canonical.proofs.Putting.{tested_room}
use Rattle.amqp_entries.specs.Contents.{read_entries}
use Rattle.amqp_entries.proofs.Flawless.{filled_is}
use Rattle.amqp_entries.proofs.Reading.{entries_shorter}
use Rattle.amqp_entries.proofs.contents.entries_size.Goals as goal

pub put_entries-requires-clause-room : goal.put_entries-requires-clause-room
put_entries-requires-clause-room c =
    let content = c.args.content.now in
    let is = filled_is (read_entries c.args.depth_left content) c.requires.read in
    tested_room (omega (arith, c.requires.few, entries_shorter c.args.depth_left content _ (λ k. omega (arith, c.type_inv.content k)) c.requires.few is))
