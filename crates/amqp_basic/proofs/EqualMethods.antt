-- Two methods of the class basic are equal exactly where contracts see the same.
use Rattle.std.proofs.Common.{◌≡◌, ◌↔◌, rules}
use Rattle.std.specs.Bool.{Decides}
use Rattle.std.specs.Cmp.{booleans_Decides}
use Rattle.std.specs.Cmp.Lexicographic.{bytes_decides}
use Rattle.amqp_laws.proofs.Deciding.{both, decides_same}
use Rattle.amqp_values.proofs.Deciding.{same_tables}
use Rattle.amqp_basic.specs.declared.basic.consuming.Qos.{Qos}
use Rattle.amqp_basic.specs.contracts.basic.consuming.QosPartialEq.TheImpl as qos
use Rattle.amqp_basic.specs.declared.basic.consuming.Consume.{Consume}
use Rattle.amqp_basic.specs.contracts.basic.consuming.ConsumePartialEq.TheImpl as consume
use Rattle.amqp_basic.specs.declared.basic.consuming.ConsumeOk.{ConsumeOk}
use Rattle.amqp_basic.specs.contracts.basic.consuming.ConsumeOkPartialEq.TheImpl as consume_ok
use Rattle.amqp_basic.specs.declared.basic.consuming.Cancel.{Cancel}
use Rattle.amqp_basic.specs.contracts.basic.consuming.CancelPartialEq.TheImpl as cancel
use Rattle.amqp_basic.specs.declared.basic.consuming.CancelOk.{CancelOk}
use Rattle.amqp_basic.specs.contracts.basic.consuming.CancelOkPartialEq.TheImpl as cancel_ok
use Rattle.amqp_basic.specs.declared.basic.publishing.Publish.{Publish}
use Rattle.amqp_basic.specs.contracts.basic.publishing.PublishPartialEq.TheImpl as publish
use Rattle.amqp_basic.specs.declared.basic.publishing.Return.{Return}
use Rattle.amqp_basic.specs.contracts.basic.publishing.ReturnPartialEq.TheImpl as returned
use Rattle.amqp_basic.specs.declared.basic.publishing.Deliver.{Deliver}
use Rattle.amqp_basic.specs.contracts.basic.publishing.DeliverPartialEq.TheImpl as deliver
use Rattle.amqp_basic.specs.declared.basic.publishing.Get.{Get}
use Rattle.amqp_basic.specs.contracts.basic.publishing.GetPartialEq.TheImpl as get
use Rattle.amqp_basic.specs.declared.basic.publishing.GetOk.{GetOk}
use Rattle.amqp_basic.specs.contracts.basic.publishing.GetOkPartialEq.TheImpl as get_ok
use Rattle.amqp_basic.specs.declared.basic.acknowledging.Ack.{Ack}
use Rattle.amqp_basic.specs.contracts.basic.acknowledging.AckPartialEq.TheImpl as ack
use Rattle.amqp_basic.specs.declared.basic.acknowledging.Reject.{Reject}
use Rattle.amqp_basic.specs.contracts.basic.acknowledging.RejectPartialEq.TheImpl as reject
use Rattle.amqp_basic.specs.declared.basic.acknowledging.RecoverAsync.{RecoverAsync}
use Rattle.amqp_basic.specs.contracts.basic.acknowledging.RecoverAsyncPartialEq.TheImpl as recover_async
use Rattle.amqp_basic.specs.declared.basic.acknowledging.Recover.{Recover}
use Rattle.amqp_basic.specs.contracts.basic.acknowledging.RecoverPartialEq.TheImpl as recover
use Rattle.amqp_basic.specs.declared.basic.acknowledging.Nack.{Nack}
use Rattle.amqp_basic.specs.contracts.basic.acknowledging.NackPartialEq.TheImpl as nack
use Rattle.amqp_basic.specs.declared.basic.AMQPMethod.{AMQPMethod}
use Rattle.amqp_basic.specs.contracts.basic.AMQPMethodPartialEq.TheImpl as method

SameConsume : Consume → Consume → Type 0
SameConsume a b =
    (a.queue ≡ b.queue)
    × ((a.consumer_tag ≡ b.consumer_tag)
    × ((a.no_local ≡ b.no_local) × ((a.no_ack ≡ b.no_ack) × ((a.exclusive ≡ b.exclusive) × ((a.nowait ≡ b.nowait) × (a.arguments ≡ b.arguments))))))

consume_fields : (a b : Consume) → Decides (consume.ghosts.eq a b) (SameConsume a b)
unfolding SameConsume
consume_fields a b = search (both, bytes_decides, booleans_Decides, same_tables) depth 10

consume_is : (a b : Consume) → SameConsume a b ↔ (a ≡ b)
unfolding SameConsume
consume_is a b = search rules

-- The test of equal basic.qos methods is true exactly where contracts see the same.
pub same_qos : (a b : Qos) → Decides (qos.ghosts.eq a b) (a ≡ b)
same_qos a b = search rules

-- The test of equal basic.consume methods is true exactly where contracts see the same.
pub same_consume : (a b : Consume) → Decides (consume.ghosts.eq a b) (a ≡ b)
same_consume a b = decides_same (consume.ghosts.eq a b) (consume_fields a b) (consume_is a b)

-- The test of equal basic.consume-ok methods is true exactly where contracts see the same.
pub same_consume_ok : (a b : ConsumeOk) → Decides (consume_ok.ghosts.eq a b) (a ≡ b)
same_consume_ok a b = search rules

-- The test of equal basic.cancel methods is true exactly where contracts see the same.
pub same_cancel : (a b : Cancel) → Decides (cancel.ghosts.eq a b) (a ≡ b)
same_cancel a b = search rules

-- The test of equal basic.cancel-ok methods is true exactly where contracts see the same.
pub same_cancel_ok : (a b : CancelOk) → Decides (cancel_ok.ghosts.eq a b) (a ≡ b)
same_cancel_ok a b = search rules

-- The test of equal basic.publish methods is true exactly where contracts see the same.
pub same_publish : (a b : Publish) → Decides (publish.ghosts.eq a b) (a ≡ b)
same_publish a b = search rules

-- The test of equal basic.return methods is true exactly where contracts see the same.
pub same_return : (a b : Return) → Decides (returned.ghosts.eq a b) (a ≡ b)
same_return a b = search rules

-- The test of equal basic.deliver methods is true exactly where contracts see the same.
pub same_deliver : (a b : Deliver) → Decides (deliver.ghosts.eq a b) (a ≡ b)
same_deliver a b = search rules

-- The test of equal basic.get methods is true exactly where contracts see the same.
pub same_get : (a b : Get) → Decides (get.ghosts.eq a b) (a ≡ b)
same_get a b = search rules

-- The test of equal basic.get-ok methods is true exactly where contracts see the same.
pub same_get_ok : (a b : GetOk) → Decides (get_ok.ghosts.eq a b) (a ≡ b)
same_get_ok a b = search rules

-- The test of equal basic.ack methods is true exactly where contracts see the same.
pub same_ack : (a b : Ack) → Decides (ack.ghosts.eq a b) (a ≡ b)
same_ack a b = search rules

-- The test of equal basic.reject methods is true exactly where contracts see the same.
pub same_reject : (a b : Reject) → Decides (reject.ghosts.eq a b) (a ≡ b)
same_reject a b = search rules

-- The test of equal basic.recover-async methods is true exactly where contracts see the same.
pub same_recover_async : (a b : RecoverAsync) → Decides (recover_async.ghosts.eq a b) (a ≡ b)
same_recover_async a b = search rules

-- The test of equal basic.recover methods is true exactly where contracts see the same.
pub same_recover : (a b : Recover) → Decides (recover.ghosts.eq a b) (a ≡ b)
same_recover a b = search rules

-- The test of equal basic.nack methods is true exactly where contracts see the same.
pub same_nack : (a b : Nack) → Decides (nack.ghosts.eq a b) (a ≡ b)
same_nack a b = search rules

-- The test of equal methods of the class basic is true exactly where contracts see the same.
pub same_method : (a b : AMQPMethod) → Decides (method.ghosts.eq a b) (a ≡ b)
same_method a b = search (
  rules,
  same_qos,
  same_consume,
  same_consume_ok,
  same_cancel,
  same_cancel_ok,
  same_publish,
  same_return,
  same_deliver,
  same_get,
  same_get_ok,
  same_ack,
  same_reject,
  same_recover_async,
  same_recover,
  same_nack,
)
