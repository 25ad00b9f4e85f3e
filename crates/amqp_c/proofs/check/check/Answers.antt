-- `check`: what it ensures.
use Rattle.std.proofs.Common.{arith, sym, ◌∙◌}
use Rattle.amqp_c.proofs.Summaries.{summary_known}
use Rattle.amqp_c.proofs.check.check.Goals as goal

pub returns : goal.returns
returns c = λ channel.
    summary_known c.args.frame_type channel c.in-Some.frame_type c.args.payload.now _
    (sym c.type_of_byte.ensures ∙ c.in-Some.is) (omega arith) c.check_raw.ensures
