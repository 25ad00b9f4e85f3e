-- `run_undump`: clause `run`.
use Rattle.amqp_program.proofs.Ran.{undump_reports}
use Rattle.amqp_program.proofs.undump_command.run_undump.Goals as goal

pub returns-clause-run : goal.returns-clause-run
returns-clause-run g c =
    undump_reports g.S.Source.supply g.K.Sink.store _ _ _ _ _ _ c.undumped.ensures c.undump_reported.ensures.run c.undump_reported.ensures.report
