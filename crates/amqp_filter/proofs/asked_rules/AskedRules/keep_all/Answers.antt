-- `AskedRules::keep_all`: what it ensures.
use Rattle.std.proofs.Common.{◌≡◌, Bool, List, Option, sym, ap, subst, ◌∙◌}
use Rattle.std.specs.Prelude.{IfSome}
use Rattle.amqp_select.specs.declared.rule.Rule.{Rule}
use Rattle.amqp_select.specs.Matching.{decides}
use Rattle.amqp_filter.proofs.asked_rules.AskedRules.keep_all.Goals as goal

pub returns : goal.returns
returns c = λ outline yes.
    ap (λ (rules : List Rule). decides rules outline) (sym c.self.view_is)
    ∙ sym (subst (λ (o : Option Bool). IfSome o (λ keep. keep ≡ decides c.self.inside.rules.now outline)) (c.self.invariant.1 yes) (c.self.invariant.0 outline))
