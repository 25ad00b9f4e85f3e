-- `run_rules`: clause `run`.
use Rattle.amqp_program.proofs.Ran.{select_reports}
use Rattle.amqp_program.proofs.select_command.run_rules.Goals as goal

pub returns-clause-run : goal.returns-clause-run
returns-clause-run g c = select_reports g.S.Source.supply g.K.Sink.store _ _ _ _ c.args.rules.now _ _ c.streamed.ensures c.select_reported.ensures.run
