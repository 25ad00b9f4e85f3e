-- `covered_by`: what it ensures.
use Rattle.std.proofs.Common.{sym, ◌∙◌}
use Rattle.amqp_select.proofs.Uncovered.{covered_at}
use Rattle.amqp_select.proofs.rules.covered_by.Goals as goal

pub returns : goal.returns
returns c = c.first_covering.ensures ∙ sym (covered_at c.args.rules.now c.args.k _ c.requires)
