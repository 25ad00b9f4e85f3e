-- The test of each of the 14 properties decides whether both have the same, and so all of them decide whether all are the same.
use Rattle.std.proofs.Common.{◌≡◌, ◌↔◌, ℕ, List, Bool, true, true≢false, refl, sym, ap, subst, rules}
use Rattle.std.specs.Prelude.{Option, Some, None, nat_eq}
use Rattle.std.specs.Bool.{Decides}
use Rattle.std.specs.Option.{option_eq}
use Rattle.std.specs.Cmp.{unsigned_Decides}
use Rattle.std.specs.Cmp.Lexicographic.{pointwise}
use lib.Pointwise.{bytes_decides}
use Rattle.amqp_types.specs.Values.{Entry, entries_of}
use Rattle.amqp_laws.proofs.Deciding.{both, decides_same}
use Rattle.amqp_values.specs.Sameness.{same_entries}
use Rattle.amqp_values.proofs.Deciding.{same_tables}
use Rattle.amqp_properties.specs.declared.properties.AMQPProperties.{AMQPProperties}
use Rattle.amqp_properties.specs.contracts.properties.AMQPPropertiesPartialEq.TheImpl as properties

-- ---- options

module _ {A : Type 0} (E : A → A → Bool) (decides : (x y : A) → Decides (E x y) (x ≡ y)) where
  option_same : (a b : Option A) → option_eq E a b ≡ true → a ≡ b
  option_same None None h = refl
  option_same None (Some y) h = absurd (true≢false (sym h))
  option_same (Some x) None h = absurd (true≢false (sym h))
  option_same (Some x) (Some y) h = ap Some ((decides x y).0 h)

  option_own : (a : Option A) → option_eq E a a ≡ true
  option_own None = refl
  option_own (Some x) = (decides x x).1 refl

  option_decides : (a b : Option A) → Decides (option_eq E a b) (a ≡ b)
  option_decides a b = (option_same a b, λ e. let P : Option A → Type 0 = λ o. option_eq E a o ≡ true in subst P e (option_own a))

text_decides : (a b : Option (List ℕ)) → Decides (option_eq (pointwise nat_eq) a b) (a ≡ b)
text_decides = option_decides (pointwise nat_eq) bytes_decides

number_decides : (a b : Option ℕ) → Decides (option_eq nat_eq a b) (a ≡ b)
number_decides = option_decides nat_eq unsigned_Decides

table_decides : (a b : Option (List Entry)) → Decides (option_eq (λ es fs. same_entries (entries_of es) (entries_of fs)) a b) (a ≡ b)
table_decides = option_decides (λ es fs. same_entries (entries_of es) (entries_of fs)) same_tables

-- ---- all of them

abbrev AreSame : AMQPProperties → AMQPProperties → Type 0
AreSame p q =
    (p.content_type ≡ q.content_type) ×
    ((p.content_encoding ≡ q.content_encoding) ×
    ((p.headers ≡ q.headers) ×
    ((p.delivery_mode ≡ q.delivery_mode) ×
    ((p.priority ≡ q.priority) ×
    ((p.correlation_id ≡ q.correlation_id) ×
    ((p.reply_to ≡ q.reply_to) ×
    ((p.expiration ≡ q.expiration) ×
    ((p.message_id ≡ q.message_id) ×
    ((p.timestamp ≡ q.timestamp) ×
    ((p.kind ≡ q.kind) ×
    ((p.user_id ≡ q.user_id) ×
    ((p.app_id ≡ q.app_id) ×
    (p.cluster_id ≡ q.cluster_id)))))))))))))

all_decide : (p q : AMQPProperties) → Decides (properties.ghosts.eq p q) (AreSame p q)
all_decide p q = search (both, text_decides, number_decides, table_decides) depth 17

all_is : (p q : AMQPProperties) → AreSame p q ↔ (p ≡ q)
all_is p q = search rules

-- The test of equal properties is true exactly where contracts see the same.
pub same_properties : (p q : AMQPProperties) → Decides (properties.ghosts.eq p q) (p ≡ q)
same_properties p q = decides_same (properties.ghosts.eq p q) (all_decide p q) (all_is p q)
