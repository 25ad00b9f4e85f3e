-- `report_of`: clause `place`.
use Rattle.std.proofs.Common.{rules}
use Rattle.amqp_program.proofs.HexRuns.{hex_placed}
use Rattle.amqp_program.proofs.report.report_of.Goals as goal

pub returns-in-Ok-clause-place : goal.returns-in-Ok-clause-place
returns-in-Ok-clause-place c = hex_placed _ _ _ c.report_on.result (search rules) c.report_on.ensures.report c.report_on.ensures.place
