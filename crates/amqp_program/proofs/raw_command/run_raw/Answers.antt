-- `run_raw`: clause `run`.
use Rattle.amqp_program.proofs.Ran.{raw_reports}
use Rattle.amqp_program.proofs.raw_command.run_raw.Goals as goal

pub returns-clause-run : goal.returns-clause-run
returns-clause-run g c = raw_reports g.S.Source.supply g.K.Sink.store _ _ _ _ _ _ c.streamed.ensures c.canonicalize_reported.ensures.run
