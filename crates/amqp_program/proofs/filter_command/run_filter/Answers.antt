-- `run_filter`: clause `rules`.
use Rattle.amqp_program.proofs.Ran.{filters_named}
use Rattle.amqp_program.proofs.filter_command.run_filter.Goals as goal

pub returns-in-Ok-clause-rules : goal.returns-in-Ok-clause-rules
returns-in-Ok-clause-rules g c = λ rules spell. filters_named _ _ rules _ _ _ _ _ c.in-Ok.ensures.named spell c.run_rules.ensures.run
