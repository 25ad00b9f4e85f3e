-- `judge_properties`: clause `judged`.
use Rattle.std.proofs.Common.{ℕ, arith}
use Rattle.std.proofs.lemmas.List.{take_rest}
use Rattle.amqp_types.specs.PropertyJudging.{judge_properties}
use Rattle.amqp_canonical.proofs.Refusing.{fully, fails_next}
use Rattle.amqp_canonical.proofs.OneSlot.{err_passed}
use Rattle.amqp_canonical.proofs.Properties.{properties_took}
use Rattle.amqp_canonical.proofs.headers.judge_properties.Goals as goal

pub returns-in_err-n-clause-judged : goal.returns-in_err-n-clause-judged
unfolding judge_properties
returns-in_err-n-clause-judged c =
    err_passed _ _ _ _ c.in_err-n.field-0.0 _ c.from_residual.ensures.1 (fails_next _ _ _ (fully {A = ℕ} (λ n. n) _ _ c.in_err-n.ensures.judged))

pub returns-in_err-set-clause-judged : goal.returns-in_err-set-clause-judged
unfolding judge_properties
returns-in_err-set-clause-judged c =
    err_passed _ _ _ _ c.in_err-set.field-0.0 _ c.from_residual-in_err-set.ensures.1
    (rw c.in_ok-n.ensures.judged (fails_next _ _ _ (rw take_rest at c.in_err-set.ensures.judged)))

pub returns-clause-judged : goal.returns-clause-judged
returns-clause-judged c =
    properties_took _ _ _ c.has_no_unused_bit-unused.result c.in_ok-set.set
    (λ k. omega (arith, c.type_inv.i k)) c.in_ok-n.ensures.judged c.has_no_unused_bit-unused.ensures (rw take_rest at c.in_ok-set.ensures.judged)
