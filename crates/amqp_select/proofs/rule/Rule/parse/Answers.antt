-- `Rule::parse`: what it ensures.
use Rattle.amqp_select.proofs.Reading.{none_read, rule_read}
use Rattle.amqp_select.proofs.rule.Rule.parse.Goals as goal

pub returns-clause-rule : goal.returns-clause-rule
returns-clause-rule c = rule_read _ _ c.read_rule.ensures

pub returns-clause-none : goal.returns-clause-none
returns-clause-none c = none_read _ _ c.read_rule.ensures
