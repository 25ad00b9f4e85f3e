-- `judge_short_string`: clause `judged`.
use Rattle.std.proofs.Common.{ℕ, List, Bor, arith}
use Rattle.amqp_canonical.proofs.OneSlot.{err_passed, short_form_fails, short_form_took}
use Rattle.amqp_canonical.proofs.slots.judge_short_string.Goals as goal

pub returns-in_err-used-clause-judged : goal.returns-in_err-used-clause-judged
returns-in_err-used-clause-judged c =
    err_passed _ _ _ _ _ _ c.from_residual.ensures.1
    (short_form_fails {A = Bor (List ℕ)} c.args.i.now (λ b. b.now) c.in_err-used.field-0.0 c.in_err-used.ensures.judged)

pub returns-clause-judged : goal.returns-clause-judged
returns-clause-judged c =
    short_form_took _ _ _ (λ k. omega (arith, c.type_inv.i k)) c.in_ok-used.ensures.judged
