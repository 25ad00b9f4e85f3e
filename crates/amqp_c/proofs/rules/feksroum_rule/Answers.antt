-- `feksroum_rule`: what it ensures.
use Rattle.std.proofs.Common.{◌∙◌, ap}
use Rattle.amqp_c.specs.Rules.{numbers_of}
use Rattle.amqp_c.proofs.RuleNumbers.{named_once}
use Rattle.amqp_c.proofs.rules.feksroum_rule.Goals as goal

pub returns-in-Some-clause-rule : goal.returns-in-Some-clause-rule
returns-in-Some-clause-rule c = λ rule is. c.numbers_of.ensures ∙ ap numbers_of (named_once _ _ _ _ c.in-Some.is c.parse.ensures.rule is)
