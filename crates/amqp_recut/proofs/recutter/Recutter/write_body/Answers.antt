-- `Recutter::write_body`: clauses `compact` and `writes`.
use Rattle.amqp_recut.proofs
use Rattle.std.proofs.Common.{arith}
use proofs.Gathering.{settled, unsettled}
use proofs.Writing.{error_few}
use proofs.recutter.Recutter.write_body.Goals as goal

pub returns-in-Err-clause-compact : goal.returns-in-Err-clause-compact
returns-in-Err-clause-compact g c =
    let few = error_few _ _ _ _ _ _ _ c.in-Err.error c.in-Err.ensures.writes in
    omega (arith, few)

pub returns-in-Err-settle-clause-writes : goal.returns-in-Err-settle-clause-writes
returns-in-Err-settle-clause-writes g c = unsettled _ _ c.in-Ok.ensures.writes c.in-Err-settle.ensures.gathers

pub returns-in-Ok-settle-clause-writes : goal.returns-in-Ok-settle-clause-writes
returns-in-Ok-settle-clause-writes g c = settled _ _ c.in-Ok.ensures.writes c.in-Ok-settle.ensures.gathers
