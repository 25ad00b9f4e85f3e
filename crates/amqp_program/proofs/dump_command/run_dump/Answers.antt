-- `run_dump`: clause `run`.
use Rattle.amqp_program.proofs.Ran.{dump_reports}
use Rattle.amqp_program.proofs.dump_command.run_dump.Goals as goal

pub returns-clause-run : goal.returns-clause-run
returns-clause-run g c = dump_reports g.S.Source.supply g.K.Sink.store _ _ _ _ _ _ c.streamed.ensures c.dump_reported.ensures.run
