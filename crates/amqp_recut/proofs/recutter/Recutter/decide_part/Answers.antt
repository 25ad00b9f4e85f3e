-- `Recutter::decide_part`: what it ensures.
use Rattle.std.proofs.Common.{true, refl}
use Rattle.amqp_wire.specs.Frames.{raw_of}
use Rattle.amqp_stream.specs.declared.decision.Decision.TheVariants as decisions
use Rattle.amqp_recut.specs.Stepping.{recutting}
use Rattle.amqp_in_turn.proofs.Judging.{judged_takes, memory_refuses}
use Rattle.amqp_recut.proofs.Stepping.{typed_wants}
use Rattle.amqp_recut.proofs.recutter.Recutter.decide_part.Goals as goal

pub returns-in-Err : goal.returns-in-Err
returns-in-Err c = memory_refuses recutting refl refl c.args.self.now c.args.self.now (raw_of c.args.raw) (typed_wants c.args.raw.frame_type c.requires.typed)

pub returns-in-Ok : goal.returns-in-Ok
returns-in-Ok c =
    judged_takes recutting refl refl c.args.self.now _ _ true (raw_of c.args.raw)
    (decisions.Kept c.args.judged) c.in-Ok.ensures.ok c.requires.steps (refl, c.requires.judged)
