-- `run_select`: clause `rules`.
use Rattle.amqp_program.proofs.Ran.{selects_named}
use Rattle.amqp_program.proofs.select_command.run_select.Goals as goal

pub returns-in-Ok-clause-rules : goal.returns-in-Ok-clause-rules
returns-in-Ok-clause-rules g c = λ rules spell. selects_named _ _ rules _ _ _ _ _ c.in-Ok.ensures.named spell c.run_rules.ensures.run
