-- `judge_content_header`: clause `judged`.
use Rattle.std.proofs.Common.{Ok, Err, arith}
use Rattle.std.proofs.lemmas.List.{take_rest}
use Rattle.amqp_types.specs.ContentHeaders.{judge_content_header}
use Rattle.amqp_canonical.proofs.Refusing.{fails_next}
use Rattle.amqp_canonical.proofs.OneSlot.{err_passed}
use Rattle.amqp_canonical.proofs.Properties.{header_judged}
use Rattle.amqp_canonical.proofs.headers.judge_content_header.Goals as goal

pub returns-in_err-front-clause-judged : goal.returns-in_err-front-clause-judged
unfolding judge_content_header
returns-in_err-front-clause-judged c =
    err_passed _ _ _ _ c.in_err-front.field-0.0 _ c.from_residual.ensures.1 (fails_next _ _ _ c.in_err-front.ensures.judged)

pub returns-in_err-properties-clause-judged : goal.returns-in_err-properties-clause-judged
returns-in_err-properties-clause-judged c =
    err_passed _ _ _ _ _ _ c.from_residual-in_err-properties.ensures.1
    (header_judged c.args.payload.now c.in_ok-front.front (Err c.in_err-properties.field-0.0)
    (λ k. omega (arith, c.type_inv.payload k)) c.in_ok-front.ensures.judged
    (rw take_rest at c.in_err-properties.ensures.judged))

pub returns-clause-judged : goal.returns-clause-judged
returns-clause-judged c =
    header_judged c.args.payload.now c.in_ok-front.front (Ok c.in_ok-properties.properties)
    (λ k. omega (arith, c.type_inv.payload k)) c.in_ok-front.ensures.judged
    (rw take_rest at c.in_ok-properties.ensures.judged)
