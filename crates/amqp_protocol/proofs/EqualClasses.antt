-- Two values are equal exactly where contracts see the same.
use Rattle.std.proofs.Common.{◌≡◌, true, true≢false, refl, sym, ap, subst, rules}
use Rattle.std.specs.Bool.{Decides}
use Rattle.amqp_basic.proofs.EqualMethods as basic
use Rattle.amqp_connection.proofs.EqualConnection as connection
use Rattle.amqp_connection.proofs.EqualAccess as access
use Rattle.amqp_channel.proofs.EqualChannel as channel
use Rattle.amqp_channel.proofs.EqualTx as tx
use Rattle.amqp_channel.proofs.EqualConfirm as confirm
use Rattle.amqp_exchange.proofs.EqualMethods as exchange
use Rattle.amqp_topology.proofs.EqualMethods as queue
use Rattle.amqp_protocol.specs.declared.class.AMQPClass.{AMQPClass}
use Rattle.amqp_protocol.specs.declared.class.AMQPClass.TheVariants as classes
use Rattle.amqp_protocol.specs.contracts.class.AMQPClassPartialEq.TheImpl as class
use Rattle.amqp_protocol.specs.declared.errors.AMQPSoftError.{AMQPSoftError}
use Rattle.amqp_protocol.specs.contracts.errors.AMQPSoftErrorPartialEq.TheImpl as soft_error
use Rattle.amqp_protocol.specs.declared.errors.AMQPHardError.{AMQPHardError}
use Rattle.amqp_protocol.specs.contracts.errors.AMQPHardErrorPartialEq.TheImpl as hard_error
use Rattle.amqp_protocol.specs.declared.errors.AMQPErrorKind.{AMQPErrorKind}
use Rattle.amqp_protocol.specs.declared.errors.AMQPErrorKind.TheVariants as kinds
use Rattle.amqp_protocol.specs.contracts.errors.AMQPErrorKindPartialEq.TheImpl as error_kind
use Rattle.amqp_protocol.specs.declared.credentials.SASLMechanism.{SASLMechanism}
use Rattle.amqp_protocol.specs.contracts.credentials.SASLMechanismPartialEq.TheImpl as mechanism

-- ---- methods

same : (a b : AMQPClass) → class.ghosts.eq a b ≡ true → a ≡ b
same (classes.Basic a) (classes.Basic b) h = ap classes.Basic ((basic.same_method a b).0 h)
same (classes.Connection a) (classes.Connection b) h = ap classes.Connection ((connection.same_method a b).0 h)
same (classes.Channel a) (classes.Channel b) h = ap classes.Channel ((channel.same_method a b).0 h)
same (classes.Access a) (classes.Access b) h = ap classes.Access ((access.same_method a b).0 h)
same (classes.Exchange a) (classes.Exchange b) h = ap classes.Exchange ((exchange.same_method a b).0 h)
same (classes.Queue a) (classes.Queue b) h = ap classes.Queue ((queue.same_method a b).0 h)
same (classes.Tx a) (classes.Tx b) h = ap classes.Tx ((tx.same_method a b).0 h)
same (classes.Confirm a) (classes.Confirm b) h = ap classes.Confirm ((confirm.same_method a b).0 h)
same a b h = absurd (true≢false (sym h))

itself : (a : AMQPClass) → class.ghosts.eq a a ≡ true
itself (classes.Basic a) = (basic.same_method a a).1 refl
itself (classes.Connection a) = (connection.same_method a a).1 refl
itself (classes.Channel a) = (channel.same_method a a).1 refl
itself (classes.Access a) = (access.same_method a a).1 refl
itself (classes.Exchange a) = (exchange.same_method a a).1 refl
itself (classes.Queue a) = (queue.same_method a a).1 refl
itself (classes.Tx a) = (tx.same_method a a).1 refl
itself (classes.Confirm a) = (confirm.same_method a a).1 refl

-- The test of equal methods of any class is true exactly where contracts see the same.
pub same_class : (a b : AMQPClass) → Decides (class.ghosts.eq a b) (a ≡ b)
same_class a b = (same a b, λ e. let P : AMQPClass → Type 0 = λ x. class.ghosts.eq a x ≡ true in subst P e (itself a))

-- ---- errors

-- The test of equal soft errors is true exactly where contracts see the same.
pub same_soft_error : (a b : AMQPSoftError) → Decides (soft_error.ghosts.eq a b) (a ≡ b)
same_soft_error a b = search rules

-- The test of equal hard errors is true exactly where contracts see the same.
pub same_hard_error : (a b : AMQPHardError) → Decides (hard_error.ghosts.eq a b) (a ≡ b)
same_hard_error a b = search rules

-- The test of equal login mechanisms is true exactly where contracts see the same.
pub same_mechanism : (a b : SASLMechanism) → Decides (mechanism.ghosts.eq a b) (a ≡ b)
same_mechanism a b = search rules

same_kinds : (a b : AMQPErrorKind) → error_kind.ghosts.eq a b ≡ true → a ≡ b
same_kinds (kinds.Soft a) (kinds.Soft b) h = ap kinds.Soft ((same_soft_error a b).0 h)
same_kinds (kinds.Hard a) (kinds.Hard b) h = ap kinds.Hard ((same_hard_error a b).0 h)
same_kinds a b h = absurd (true≢false (sym h))

kind_itself : (a : AMQPErrorKind) → error_kind.ghosts.eq a a ≡ true
kind_itself (kinds.Soft a) = (same_soft_error a a).1 refl
kind_itself (kinds.Hard a) = (same_hard_error a a).1 refl

-- The test of equal errors, soft or hard, is true exactly where contracts see the same.
pub same_kind : (a b : AMQPErrorKind) → Decides (error_kind.ghosts.eq a b) (a ≡ b)
same_kind a b = (same_kinds a b, λ e. let P : AMQPErrorKind → Type 0 = λ x. error_kind.ghosts.eq a x ≡ true in subst P e (kind_itself a))
