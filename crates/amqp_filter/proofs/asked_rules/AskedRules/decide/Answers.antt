-- `AskedRules::decide`: what it ensures.
use Rattle.std.proofs.Common.{◌≡◌, Bool, List, Option, ap, subst, ◌∙◌}
use Rattle.std.specs.Prelude.{IfSome}
use Rattle.amqp_wire.specs.Outlines.{outline_of}
use Rattle.amqp_select.specs.declared.rule.Rule.{Rule}
use Rattle.amqp_select.specs.Matching.{decides}
use Rattle.amqp_filter.proofs.asked_rules.AskedRules.decide.Goals as goal

pub returns-in-Some : goal.returns-in-Some
returns-in-Some c = λ frame h.
    subst (λ (o : Option Bool). IfSome o (λ keep. keep ≡ decides c.self.inside.rules.now (outline_of frame))) c.in-Some.is
    (c.self.invariant.0 (outline_of frame))
    ∙ ap (λ (rules : List Rule). decides rules (outline_of frame)) c.self.view_is
