-- `judge_at`: what it ensures.
use Rattle.std.proofs.Common.{rules, ◌≡◌, false}
use Rattle.amqp_types.specs.Levels.{level_of}
use Rattle.amqp_wire.specs.Frames.{raw_of}
use Rattle.amqp_c.proofs.Fronts.{judged_refused, judged_untidy}
use Rattle.amqp_c.proofs.canonicalize.judge_at.Goals as goal

pub returns-in-Err : goal.returns-in-Err
returns-in-Err c =
    let refused = c.in-Err.ensures in
    judged_refused (level_of c.args.profile) (raw_of c.args.raw) c.in-Err.error c.payload_error.result c.payload_error.ensures refused.0.0 refused.0.1 refused.1

pub returns-in-Tidy : goal.returns-in-Tidy
returns-in-Tidy c =
    let not : c.in-Ok.judged.tidy ≡ false = search rules in
    rw c.in-Tidy.is (judged_untidy c.in-Ok.ensures not)
