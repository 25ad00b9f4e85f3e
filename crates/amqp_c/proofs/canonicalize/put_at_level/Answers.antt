-- `put_at_level`: clause `puts`.
use Rattle.std.proofs.Common.{refl}
use Rattle.amqp_c.proofs.canonicalize.put_at_level.Goals as goal

pub returns-in-Err-clause-puts : goal.returns-in-Err-clause-puts
returns-in-Err-clause-puts c = let refused = c.in-Err.ensures in (refused.0, refused.1, refused.2, refl)

pub returns-in-Ok-clause-puts : goal.returns-in-Ok-clause-puts
returns-in-Ok-clause-puts c =
    let judged = c.in-Ok.ensures in
    let put = c.put_frame.ensures.puts in
    (put.0, put.1, judged.1, put.2)
