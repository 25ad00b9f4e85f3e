-- `words_spell_one_rule`: what it ensures.
use Rattle.amqp_select.proofs.Words.{one_rule}
use Rattle.amqp_select.proofs.laws.words_spell_one_rule.Goals as goal

pub returns : goal.returns
returns c = one_rule
