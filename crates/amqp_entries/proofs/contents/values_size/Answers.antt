-- `values_size`: canonical content is no longer than the content.
use Rattle.std.proofs.Common.{arith}
use Rattle.amqp_canonical.proofs.Putting.{tested_room}
use Rattle.amqp_entries.specs.Contents.{read_values}
use Rattle.amqp_entries.proofs.Flawless.{filled_is}
use Rattle.amqp_entries.proofs.Reading.{values_shorter}
use Rattle.amqp_entries.proofs.contents.values_size.Goals as goal

pub put_values-requires-clause-room : goal.put_values-requires-clause-room
put_values-requires-clause-room c =
    let content = c.args.content.now in
    let is = filled_is (read_values c.args.depth_left content) c.requires.read in
    tested_room (omega (arith, c.requires.few, values_shorter c.args.depth_left content _ (λ k. omega (arith, c.type_inv.content k)) c.requires.few is))
