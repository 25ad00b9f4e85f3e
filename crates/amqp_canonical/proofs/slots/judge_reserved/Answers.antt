-- `judge_reserved`: clause `judged`.
use Rattle.std.proofs.Common.{arith}
use Rattle.amqp_canonical.specs.Shapes.{form_of}
use Rattle.amqp_canonical.proofs.OneSlot.{bytes_decided, err_passed, reserved_fails, constant_took}
use Rattle.amqp_canonical.proofs.slots.judge_reserved.Goals as goal

pub returns-in_err-found-clause-judged : goal.returns-in_err-found-clause-judged
returns-in_err-found-clause-judged c =
    err_passed _ _ _ _ _ _ c.from_residual.ensures.1
    (reserved_fails (form_of c.args.form) c.args.i.now c.in_err-found.field-0.0 c.in_err-found.ensures.judged)

pub returns-clause-judged : goal.returns-clause-judged
returns-clause-judged c =
    constant_took _ _ c.args.constant.now c.in_ok-found.found _
    (λ k. omega (arith, c.type_inv.i k)) c.requires.constant c.in_ok-found.ensures.judged (bytes_decided _ _ _ c.eq-as_written.ensures)
