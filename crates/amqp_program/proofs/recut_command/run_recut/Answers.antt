-- `run_recut`: clause `run`.
use Rattle.amqp_program.proofs.Ran.{turn_reports}
use Rattle.amqp_program.proofs.recut_command.run_recut.Goals as goal

pub returns-clause-run : goal.returns-clause-run
returns-clause-run g c = turn_reports g.S.Source.supply g.K.Sink.store _ _ _ _ _ _ _ _ c.turned.ensures c.recut_reported.ensures.run
