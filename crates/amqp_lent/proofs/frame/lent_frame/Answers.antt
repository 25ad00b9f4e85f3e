-- `lent_frame`: clause `judged` and what calls require.
use Rattle.std.proofs.Common.{◌∙◌}
use Rattle.amqp_wire.specs.Frames.{raw_of}
use Rattle.amqp_wire.specs.Verdicts.{decode_raw}
use Rattle.amqp_lent.proofs.Standing.{is_ok}
use Rattle.amqp_lent.proofs.frame.lent_frame.Goals as goal

pub lent_as-requires : goal.lent_as-requires
lent_as-requires c = let h = c.in-Ok.ensures in record { whole = is_ok (decode_raw (raw_of c.args.frame)) h.frame h.is }

pub returns-in-Ok-clause-judged : goal.returns-in-Ok-clause-judged
returns-in-Ok-clause-judged c = let h = c.in-Ok.ensures in (h.frame, h.is, c.lent_as.ensures.same ∙ h.is)

pub returns-in-Err-clause-judged : goal.returns-in-Err-clause-judged
returns-in-Err-clause-judged c = let h = c.in-Err.ensures in (h.0.1, h.1)
