-- `Recutter::end_body`: clause `writes`.
use Rattle.std.proofs.lemmas.Grind.{common_steps}
use Rattle.std.proofs.Common.{arith}
use Rattle.amqp_recut.proofs.Gathering.{body_written, body_unwritten}
use Rattle.amqp_recut.proofs.recutter.Recutter.end_body.Goals as goal

pub returns-in-Err-clause-writes : goal.returns-in-Err-clause-writes
returns-in-Err-clause-writes g c = body_unwritten _ _ _ _ c.requires.steps (rw c.kept-kept.ensures at c.in-Err.ensures.gathers)

pub returns-clause-writes : goal.returns-clause-writes
returns-clause-writes g c = grind (arith, common_steps, body_written)
