-- `Recutter::cut_body`: clause `writes`.
use Rattle.std.proofs.Common.{refl}
use Rattle.amqp_recut.proofs.Stepping.{body_refused}
use Rattle.amqp_recut.proofs.recutter.Recutter.cut_body.Goals as goal

pub returns-in-Fault-clause-writes : goal.returns-in-Fault-clause-writes
returns-in-Fault-clause-writes g c = body_refused c.args.self.now c.args.channel_id c.args.payload.now c.in-Fault.fault _ _ _ refl (cc)
