-- Two methods of the class queue are equal exactly where contracts see the same.
use Rattle.std.proofs.Common.{◌≡◌, ◌↔◌, rules}
use Rattle.std.specs.Bool.{Decides}
use Rattle.std.specs.Cmp.{booleans_Decides}
use Rattle.std.specs.Cmp.Lexicographic.{bytes_decides}
use Rattle.amqp_laws.proofs.Deciding.{both, decides_same}
use Rattle.amqp_values.proofs.Deciding.{same_tables}
use Rattle.amqp_topology.specs.declared.queue.declaring.Declare.{Declare}
use Rattle.amqp_topology.specs.contracts.queue.declaring.DeclarePartialEq.TheImpl as declare
use Rattle.amqp_topology.specs.declared.queue.declaring.DeclareOk.{DeclareOk}
use Rattle.amqp_topology.specs.contracts.queue.declaring.DeclareOkPartialEq.TheImpl as declare_ok
use Rattle.amqp_topology.specs.declared.queue.binding.Bind.{Bind}
use Rattle.amqp_topology.specs.contracts.queue.binding.BindPartialEq.TheImpl as bind
use Rattle.amqp_topology.specs.declared.queue.declaring.Purge.{Purge}
use Rattle.amqp_topology.specs.contracts.queue.declaring.PurgePartialEq.TheImpl as purge
use Rattle.amqp_topology.specs.declared.queue.declaring.PurgeOk.{PurgeOk}
use Rattle.amqp_topology.specs.contracts.queue.declaring.PurgeOkPartialEq.TheImpl as purge_ok
use Rattle.amqp_topology.specs.declared.queue.declaring.Delete.{Delete}
use Rattle.amqp_topology.specs.contracts.queue.declaring.DeletePartialEq.TheImpl as delete
use Rattle.amqp_topology.specs.declared.queue.declaring.DeleteOk.{DeleteOk}
use Rattle.amqp_topology.specs.contracts.queue.declaring.DeleteOkPartialEq.TheImpl as delete_ok
use Rattle.amqp_topology.specs.declared.queue.binding.Unbind.{Unbind}
use Rattle.amqp_topology.specs.contracts.queue.binding.UnbindPartialEq.TheImpl as unbind
use Rattle.amqp_topology.specs.declared.queue.AMQPMethod.{AMQPMethod}
use Rattle.amqp_topology.specs.contracts.queue.AMQPMethodPartialEq.TheImpl as method

SameDeclare : Declare → Declare → Type 0
SameDeclare a b =
    (a.queue ≡ b.queue)
    × ((a.passive ≡ b.passive)
    × ((a.durable ≡ b.durable) × ((a.exclusive ≡ b.exclusive) × ((a.auto_delete ≡ b.auto_delete) × ((a.nowait ≡ b.nowait) × (a.arguments ≡ b.arguments))))))

declare_fields : (a b : Declare) → Decides (declare.ghosts.eq a b) (SameDeclare a b)
unfolding SameDeclare
declare_fields a b = search (both, bytes_decides, booleans_Decides, same_tables) depth 10

declare_is : (a b : Declare) → SameDeclare a b ↔ (a ≡ b)
unfolding SameDeclare
declare_is a b = search rules

-- The test of equal queue.declare methods is true exactly where contracts see the same.
pub same_declare : (a b : Declare) → Decides (declare.ghosts.eq a b) (a ≡ b)
same_declare a b = decides_same (declare.ghosts.eq a b) (declare_fields a b) (declare_is a b)

-- The test of equal queue.declare-ok methods is true exactly where contracts see the same.
pub same_declare_ok : (a b : DeclareOk) → Decides (declare_ok.ghosts.eq a b) (a ≡ b)
same_declare_ok a b = search rules

-- The test of equal queue.bind methods is true exactly where contracts see the same.
pub same_bind : (a b : Bind) → Decides (bind.ghosts.eq a b) (a ≡ b)
same_bind a b = search (rules, same_tables)

-- The test of equal queue.purge methods is true exactly where contracts see the same.
pub same_purge : (a b : Purge) → Decides (purge.ghosts.eq a b) (a ≡ b)
same_purge a b = search rules

-- The test of equal queue.purge-ok methods is true exactly where contracts see the same.
pub same_purge_ok : (a b : PurgeOk) → Decides (purge_ok.ghosts.eq a b) (a ≡ b)
same_purge_ok a b = search rules

-- The test of equal queue.delete methods is true exactly where contracts see the same.
pub same_delete : (a b : Delete) → Decides (delete.ghosts.eq a b) (a ≡ b)
same_delete a b = search rules

-- The test of equal queue.delete-ok methods is true exactly where contracts see the same.
pub same_delete_ok : (a b : DeleteOk) → Decides (delete_ok.ghosts.eq a b) (a ≡ b)
same_delete_ok a b = search rules

-- The test of equal queue.unbind methods is true exactly where contracts see the same.
pub same_unbind : (a b : Unbind) → Decides (unbind.ghosts.eq a b) (a ≡ b)
same_unbind a b = search (rules, same_tables)

-- The test of equal methods of the class queue is true exactly where contracts see the same.
pub same_method : (a b : AMQPMethod) → Decides (method.ghosts.eq a b) (a ≡ b)
same_method a b = search (rules, same_declare, same_declare_ok, same_bind, same_purge, same_purge_ok, same_delete, same_delete_ok, same_unbind)
