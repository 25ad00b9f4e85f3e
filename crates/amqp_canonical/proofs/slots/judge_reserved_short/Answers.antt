-- `judge_reserved_short`: clause `judged`.
use Rattle.std.proofs.Common.{ℕ, arith}
use Rattle.amqp_types.specs.Numbers.{bytes2}
use Rattle.amqp_canonical.proofs.AfterTag.{same_decided}
use Rattle.amqp_canonical.proofs.OneSlot.{err_passed, reserved_number_fails, reserved_short_took}
use Rattle.amqp_canonical.proofs.slots.judge_reserved_short.Goals as goal

pub returns-in_err-used-clause-judged : goal.returns-in_err-used-clause-judged
returns-in_err-used-clause-judged c =
    err_passed _ _ _ _ _ _ c.from_residual.ensures.1
    (reserved_number_fails {A = ℕ} bytes2 c.args.i.now (λ n. n) c.in_err-used.field-0.0 c.in_err-used.ensures.judged)

pub returns-clause-judged : goal.returns-clause-judged
returns-clause-judged c =
    reserved_short_took _ _ _ _ _ _
    (λ k. omega (arith, c.type_inv.i k)) c.requires.two c.from_be_bytes.ensures
    (omega (arith, c.from_be_bytes.type_inv)) c.in_ok-used.ensures.judged (same_decided _ _)
