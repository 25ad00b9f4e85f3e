-- Two methods of the class exchange are equal exactly where contracts see the same.
use Rattle.std.proofs.Common.{◌≡◌, ◌↔◌, rules}
use Rattle.std.specs.Bool.{Decides}
use Rattle.std.specs.Cmp.{booleans_Decides}
use Rattle.std.specs.Cmp.Lexicographic.{bytes_decides}
use Rattle.amqp_laws.proofs.Deciding.{both, decides_same}
use Rattle.amqp_values.proofs.Deciding.{same_tables}
use Rattle.amqp_exchange.specs.declared.exchange.declaring.Declare.{Declare}
use Rattle.amqp_exchange.specs.contracts.exchange.declaring.DeclarePartialEq.TheImpl as declare
use Rattle.amqp_exchange.specs.declared.exchange.declaring.Delete.{Delete}
use Rattle.amqp_exchange.specs.contracts.exchange.declaring.DeletePartialEq.TheImpl as delete
use Rattle.amqp_exchange.specs.declared.exchange.binding.Bind.{Bind}
use Rattle.amqp_exchange.specs.contracts.exchange.binding.BindPartialEq.TheImpl as bind
use Rattle.amqp_exchange.specs.declared.exchange.binding.Unbind.{Unbind}
use Rattle.amqp_exchange.specs.contracts.exchange.binding.UnbindPartialEq.TheImpl as unbind
use Rattle.amqp_exchange.specs.declared.exchange.AMQPMethod.{AMQPMethod}
use Rattle.amqp_exchange.specs.contracts.exchange.AMQPMethodPartialEq.TheImpl as method

SameDeclare : Declare → Declare → Type 0
SameDeclare a b =
    (a.exchange ≡ b.exchange)
    × ((a.kind ≡ b.kind)
    × ((a.passive ≡ b.passive)
    × ((a.durable ≡ b.durable) × ((a.auto_delete ≡ b.auto_delete) × ((a.internal ≡ b.internal) × ((a.nowait ≡ b.nowait) × (a.arguments ≡ b.arguments)))))))

declare_fields : (a b : Declare) → Decides (declare.ghosts.eq a b) (SameDeclare a b)
unfolding SameDeclare
declare_fields a b = search (both, bytes_decides, booleans_Decides, same_tables) depth 11

declare_is : (a b : Declare) → SameDeclare a b ↔ (a ≡ b)
unfolding SameDeclare
declare_is a b = search rules

-- The test of equal exchange.declare methods is true exactly where contracts see the same.
pub same_declare : (a b : Declare) → Decides (declare.ghosts.eq a b) (a ≡ b)
same_declare a b = decides_same (declare.ghosts.eq a b) (declare_fields a b) (declare_is a b)

-- The test of equal exchange.delete methods is true exactly where contracts see the same.
pub same_delete : (a b : Delete) → Decides (delete.ghosts.eq a b) (a ≡ b)
same_delete a b = search rules

-- The test of equal exchange.bind methods is true exactly where contracts see the same.
pub same_bind : (a b : Bind) → Decides (bind.ghosts.eq a b) (a ≡ b)
same_bind a b = search (rules, same_tables)

-- The test of equal exchange.unbind methods is true exactly where contracts see the same.
pub same_unbind : (a b : Unbind) → Decides (unbind.ghosts.eq a b) (a ≡ b)
same_unbind a b = search (rules, same_tables)

-- The test of equal methods of the class exchange is true exactly where contracts see the same.
pub same_method : (a b : AMQPMethod) → Decides (method.ghosts.eq a b) (a ≡ b)
same_method a b = search (rules, same_declare, same_delete, same_bind, same_unbind)
