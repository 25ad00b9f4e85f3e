-- Laws of rules.
use Rattle.std.specs.Prelude.{◌≡◌, List}
use Rattle.amqp_wire.specs.Frames.{Frame}
use Rattle.amqp_select.specs.declared.rule.Rule.{Rule}
use Rattle.amqp_select.specs.Rules.{IsRule, spelled}
use Rattle.amqp_select.specs.Matching.{kept}
use Rattle.amqp_select.specs.Covering.{uncovered}

-- without the rules that an earlier one covers the same frames are kept
abbrev pub CoveredRulesDecideNothing : Type 0
CoveredRulesDecideNothing =
    (rules : List Rule) (frames : List Frame) → kept (uncovered rules) frames ≡ kept rules frames

-- no word stands for two rules
abbrev pub WordsSpellOneRule : Type 0
WordsSpellOneRule = (r q : Rule) → IsRule r → IsRule q → spelled r ≡ spelled q → r ≡ q
