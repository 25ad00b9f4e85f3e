-- `judge_flags`: clause `judged`.
use Rattle.std.proofs.Common.{arith}
use Rattle.amqp_canonical.proofs.OneSlot.{flags_form_past, flags_form_took}
use Rattle.amqp_canonical.proofs.slots.judge_flags.Goals as goal

pub returns-in-empty-clause-judged : goal.returns-in-empty-clause-judged
returns-in-empty-clause-judged c = (λ e. cc, flags_form_past c.args.count c.args.i.now (omega (arith, c.in-empty.len_below)))

pub returns-in-len1-up-clause-judged : goal.returns-in-len1-up-clause-judged
returns-in-len1-up-clause-judged c =
    flags_form_took c.args.count c.args.i.now _ (λ k. omega (arith, c.type_inv.i k)) (omega (arith, c.in-len1-up.len_at_least)) c.fits_flags-fits.ensures
