-- Lists of rules are equal exactly where they are the same.
use Rattle.std.proofs.Common.{◌≡◌, List, Option, Some, None, Bool, true, true≢false, refl, sym, ap, subst, rules}
use Rattle.std.specs.Bool.{Decides}
use Rattle.std.specs.Prelude.{nat_eq}
use Rattle.std.specs.Option.{option_eq}
use Rattle.std.specs.Cmp.{booleans_Decides, unsigned_Decides}
use Rattle.std.specs.Cmp.Lexicographic.{pointwise, pointwise_decides}
use Rattle.amqp_laws.proofs.Deciding.{both}
use Rattle.amqp_wire.specs.declared.frame_type.AMQPFrameType.{AMQPFrameType}
use Rattle.amqp_wire.specs.contracts.frame_type.AMQPFrameTypePartialEq.TheImpl as kind
use Rattle.amqp_select.specs.declared.rule.Rule.{Rule}
use Rattle.amqp_select.specs.declared.rule.Span.{Span}
use Rattle.amqp_select.specs.declared.rule.Span.TheVariants as spans
use Rattle.amqp_select.specs.contracts.rule.RulePartialEq.TheImpl as rule
use Rattle.amqp_select.specs.contracts.rule.SpanPartialEq.TheImpl as span

-- ---- what may be there

module _ {A : Type 0} (E : A → A → Bool) (decides : (x y : A) → Decides (E x y) (x ≡ y)) where
  option_same : (a b : Option A) → option_eq E a b ≡ true → a ≡ b
  option_same None None h = refl
  option_same None (Some y) h = absurd (true≢false (sym h))
  option_same (Some x) None h = absurd (true≢false (sym h))
  option_same (Some x) (Some y) h = ap Some ((decides x y).0 h)

  option_itself : (a : Option A) → option_eq E a a ≡ true
  option_itself None = refl
  option_itself (Some x) = (decides x x).1 refl

  same_option : (a b : Option A) → Decides (option_eq E a b) (a ≡ b)
  same_option a b = (option_same a b, λ e. let P : Option A → Type 0 = λ o. option_eq E a o ≡ true in subst P e (option_itself a))

-- ---- the parts of a rule

span_same : (a b : Span) → span.ghosts.eq a b ≡ true → a ≡ b
span_same (spans.One a) (spans.One b) h = ap spans.One ((unsigned_Decides a b).0 h)
span_same (spans.Range a c) (spans.Range b d) h = let e = (both _ _ (unsigned_Decides a b) (unsigned_Decides c d)).0 h in λ i. spans.Range (e.0 i) (e.1 i)
span_same a b h = absurd (true≢false (sym h))

span_itself : (a : Span) → span.ghosts.eq a a ≡ true
span_itself (spans.One a) = (unsigned_Decides a a).1 refl
span_itself (spans.Range a c) = (both _ _ (unsigned_Decides a a) (unsigned_Decides c c)).1 (refl, refl)

same_span : (a b : Span) → Decides (span.ghosts.eq a b) (a ≡ b)
same_span a b = (span_same a b, λ e. let P : Span → Type 0 = λ x. span.ghosts.eq a x ≡ true in subst P e (span_itself a))

same_kind : (a b : AMQPFrameType) → Decides (kind.ghosts.eq a b) (a ≡ b)
same_kind a b = search rules

-- ---- rules

abbrev AreSame : Rule → Rule → Type 0
AreSame a b = (a.keep ≡ b.keep) × ((a.channel ≡ b.channel) × ((a.kind ≡ b.kind) × ((a.class_id ≡ b.class_id) × (a.method_id ≡ b.method_id))))

parts_decided : (a b : Rule) → Decides (rule.ghosts.eq a b) (AreSame a b)
parts_decided a b =
    let id = same_option nat_eq unsigned_Decides in
    both _ _ (booleans_Decides a.keep b.keep)
    (both _ _ (same_option span.ghosts.eq same_span a.channel b.channel)
    (both _ _ (same_option kind.ghosts.eq same_kind a.kind b.kind)
    (both _ _ (id a.class_id b.class_id) (id a.method_id b.method_id))))

same_rule : (a b : Rule) → Decides (rule.ghosts.eq a b) (a ≡ b)
same_rule a b = (
  λ h. let e = (parts_decided a b).0 h in λ i. record { keep = e.0 i; channel = e.1.0 i; kind = e.1.1.0 i; class_id = e.1.1.1.0 i; method_id = e.1.1.1.1 i },
  λ e. (parts_decided a b).1 (
    ap (λ (r : Rule). r.keep) e,
    (ap (λ (r : Rule). r.channel) e, (ap (λ (r : Rule). r.kind) e, (ap (λ (r : Rule). r.class_id) e, ap (λ (r : Rule). r.method_id) e))),
  ),
)

-- The test of equal lists of rules is true exactly where contracts see the same.
pub same_rules : (a b : List Rule) → Decides (pointwise rule.ghosts.eq a b) (a ≡ b)
same_rules a b = pointwise_decides same_rule a b
