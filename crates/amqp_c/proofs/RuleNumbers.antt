-- Rules by their numbers decide as the rules do.
use Rattle.std.proofs.Common.{arith, ◌≡◌, ℕ, Bool, true, List, [], ◌∷◌, map, Option, Some, None, refl, sym, ◌∙◌, inl, inr}
use Rattle.std.proofs.lemmas.Bool.{cases_Bool}
use Rattle.std.proofs.lemmas.Bool.Decides.{nat_tests}
use Rattle.std.specs.Prelude.{IfSome, is_some, unwrap_or}
use Rattle.std.specs.Option.{option_map}
use Rattle.std.specs.List.{AllByRecursion, filter_map, list_all}
use Rattle.amqp_types.specs.Flags.{bit_of}
use Rattle.amqp_wire.specs.declared.frame_type.AMQPFrameType.{AMQPFrameType}
use Rattle.amqp_wire.specs.declared.outline.FrameOutline.{FrameOutline}
use Rattle.amqp_select.specs.declared.rule.Rule.{Rule}
use Rattle.amqp_select.specs.declared.rule.Span.{Span}
use Rattle.amqp_select.specs.declared.rule.Span.TheVariants as spans
use Rattle.amqp_wire.specs.Outlines.{outline_channel}
use Rattle.amqp_select.specs.Matching.{contains, decides, first_match, holds, keeps, matches}
use Rattle.amqp_select.specs.Rules.{IsRule, IsSpanOfNumbers}
use Rattle.amqp_select.specs.Refusals.{IsRuleFor}
use Rattle.amqp_select.proofs.Words.{one_rule}
use Rattle.amqp_c.specs.Rules.{decision, ends_of, flag_at, kind_in, numbers_of, part_in, rule_in, span_in, type_byte}

-- a range for each channel, so that a rule is that of its numbers
abbrev as_range : Span → Span
as_range (spans.One only) = spans.Range only only
as_range (spans.Range first last) = spans.Range first last

-- the rule that comes back
abbrev back : Rule → Rule
back rule = record rule { channel = option_map as_range rule.channel }

flag_back : (b : Bool) → flag_at (bit_of b) ≡ Some b
flag_back b = grind arith

part_back : (part : Option ℕ) → part_in (bit_of (is_some part)) (unwrap_or part 0) ≡ Some part
part_back part = grind arith

kind_back : (kind : Option AMQPFrameType) → kind_in (type_byte kind) ≡ Some kind
kind_back kind = grind arith

span_back : (span : Option Span) → IfSome span IsSpanOfNumbers
    → span_in (bit_of (is_some span)) (ends_of span).0 (ends_of span).1 ≡ Some (option_map as_range span)
span_back span h = grind (arith, nat_tests)

rule_back : (rule : Rule) → IsRule rule → rule_in (numbers_of rule) ≡ Some (back rule)
rule_back rule h = grind (arith, flag_back, span_back, kind_back, part_back)

span_holds : (span : Option Span) (channel : ℕ) → holds (λ s. contains s channel) (option_map as_range span) ≡ holds (λ s. contains s channel) span
span_holds span channel = grind (arith, nat_tests)

back_matches : (rule : Rule) (outline : FrameOutline) → matches (back rule) outline ≡ matches rule outline
back_matches rule outline = rw (span_holds rule.channel (outline_channel outline)) refl

all_back : (rules : List Rule) → AllByRecursion IsRule rules → list_all (λ n. is_some (rule_in n)) (map numbers_of rules) ≡ true
all_back [] h = refl
all_back (rule ∷ rules) h = rw (rule_back rule h.0) (all_back rules h.1)

first_back : (outline : FrameOutline) (rules : List Rule) → AllByRecursion IsRule rules
    → keeps (first_match (filter_map rule_in (map numbers_of rules)) outline) ≡ keeps (first_match rules outline)
first_back outline [] h = refl
first_back outline (rule ∷ rules) h =
    let more = first_back outline rules h.1 in
    rw (rule_back rule h.0, back_matches rule outline) (elim (cases_Bool (matches rule outline)) [ inl e ↦ rw e refl | inr e ↦ rw e more ])

-- rules by their numbers decide as the rules do
pub decide_alike : (rules : List Rule) (outline : FrameOutline) → AllByRecursion IsRule rules
    → decision (map numbers_of rules) outline ≡ bit_of (decides rules outline)
decide_alike rules outline h = rw (all_back rules h, first_back outline rules h) refl

-- a word is one rule
pub named_once : (word : List ℕ) (read : Option Rule) (found rule : Rule)
    → read ≡ Some found → IfSome read (IsRuleFor word) → IsRuleFor word rule → found ≡ rule
named_once word None found rule e h is = absurd cc
named_once word (Some r) found rule e h is = cc (one_rule r rule h.0 is.0 (sym h.1 ∙ is.1))
