-- `method_fields`: the lists of publish and ack are filled up.
use Rattle.std.proofs.Common.{arith}
use Rattle.amqp_basic.proofs.Padded.{six, four}
use Rattle.amqp_basic.proofs.basic.method_fields.Goals as goal

pub returns-in-Publish : goal.returns-in-Publish
returns-in-Publish c = rw c.in-Publish.is (six c.publish_fields.result _ _ _ _ _ _ _ (omega arith) c.publish_fields.ensures)

pub returns-in-Ack : goal.returns-in-Ack
returns-in-Ack c = rw c.in-Ack.is (four c.ack_fields.result _ _ _ _ _ (omega arith) c.ack_fields.ensures)
