-- `judge_method`: what it ensures.
use Rattle.std.proofs.Common.{Err, sym, subst, arith}
use Rattle.amqp_types.specs.declared.errors.ParserError.{ParserError}
use Rattle.amqp_wire.proofs.Judged.{JudgesMethod, method_all, method_refused}
use Rattle.amqp_wire.proofs.judging.judge_method.Goals as goal

pub returns-in-Err : goal.returns-in-Err
returns-in-Err c =
    let P : ParserError → Type 0 = λ error. JudgesMethod c.args.payload.now (Err error) in
    subst P (sym c.inside.ensures) (method_refused c.args.payload.now c.in-Err.error c.in-Err.ensures.judged)

pub returns-in-Ok-2 : goal.returns-in-Ok-2
returns-in-Ok-2 c =
    method_all c.args.payload.now c.in-Ok.found (λ k. omega (arith, c.type_inv.payload k))
    (omega (arith, c.in-Ok.ensures.used, c.if-found-payload.false)) c.in-Ok.ensures.judged
