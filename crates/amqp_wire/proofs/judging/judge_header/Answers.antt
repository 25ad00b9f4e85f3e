-- `judge_header`: what it ensures.
use Rattle.std.proofs.Common.{Err, sym, subst, arith}
use Rattle.amqp_types.specs.declared.errors.ParserError.{ParserError}
use Rattle.amqp_wire.proofs.Judged.{JudgesHeader, header_all, header_refused}
use Rattle.amqp_wire.proofs.judging.judge_header.Goals as goal

pub returns-in-Err : goal.returns-in-Err
returns-in-Err c =
    let P : ParserError → Type 0 = λ error. JudgesHeader c.args.payload.now (Err error) in
    subst P (sym c.inside.ensures) (header_refused c.args.payload.now c.in-Err.error c.in-Err.ensures.judged)

pub returns-in-Ok-2 : goal.returns-in-Ok-2
returns-in-Ok-2 c =
    header_all c.args.payload.now c.in-Ok.found (λ k. omega (arith, c.type_inv.payload k))
    (omega (arith, c.in-Ok.ensures.used, c.if-found-payload.false)) c.in-Ok.ensures.judged
