-- `Recutter::pass_body`: clause `taken`.
use Rattle.std.proofs.lemmas.Grind.{common_steps}
use Rattle.std.proofs.Common.{arith}
use Rattle.amqp_recut.proofs.Writing.{empty_is, some_are, body_last, body_midst}
use Rattle.amqp_recut.proofs.recutter.Recutter.pass_body.Goals as goal

pub returns-in-None-clause-taken : goal.returns-in-None-clause-taken
returns-in-None-clause-taken c = grind (arith, common_steps, empty_is, some_are, body_last)

pub returns-in-Ok-clause-taken : goal.returns-in-Ok-clause-taken
returns-in-Ok-clause-taken c = λ taken.
    body_midst c.args.self.now _ c.args.channel_id c.args.payload.now c.in-Body.before c.in-Body.after c.in-Body.size (cc)
    (grind (arith, common_steps, empty_is)) (grind (arith, common_steps, some_are)) c.in-Some.progress (cc) (omega arith) c.in-Ok.ensures.ok
