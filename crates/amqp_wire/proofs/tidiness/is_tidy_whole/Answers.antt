-- `is_tidy_whole`: clause `spelled`.
use Rattle.std.proofs.Common.{arith}
use Rattle.amqp_wire.proofs.Judged.{tidy_decided}
use Rattle.amqp_wire.proofs.tidiness.is_tidy_whole.Goals as goal

pub returns-in-Ok-clause-spelled : goal.returns-in-Ok-clause-spelled
returns-in-Ok-clause-spelled c = λ frame is.
    tidy_decided c.args.frame_type c.args.channel_id c.args.payload.now frame c.in-Ok.judged
    (λ k. omega (arith, c.type_inv.payload k)) (omega (arith, c.ranges.channel_id.fits)) c.requires.few is c.in-Ok.ensures
