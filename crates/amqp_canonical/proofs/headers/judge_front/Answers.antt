-- `judge_front`: clause `judged`.
use Rattle.std.proofs.Common.{Ok, Err}
use Rattle.std.proofs.lemmas.List.{take_rest}
use Rattle.amqp_types.specs.ContentHeaders.{header_slots}
use Rattle.amqp_canonical.specs.SlotJudgements.{after_others}
use Rattle.amqp_canonical.proofs.Forms.{fields_walk}
use Rattle.amqp_canonical.proofs.Joining.{one_alone}
use Rattle.amqp_canonical.proofs.OneSlot.{err_passed}
use Rattle.amqp_canonical.proofs.headers.judge_front.Goals as goal

pub returns-in_err-class-clause-judged : goal.returns-in_err-class-clause-judged
unfolding header_slots
returns-in_err-class-clause-judged c =
    err_passed _ _ _ _ _ _ c.from_residual.ensures.1 (fields_walk.stop _ _ _ c.in_err-class.field-0.0 c.in_err-class.ensures.judged)

pub returns-in_err-weight-clause-judged : goal.returns-in_err-weight-clause-judged
unfolding header_slots
returns-in_err-weight-clause-judged c =
    let e = c.in_err-weight.field-0.0 in
    err_passed _ _ _ _ e _ c.from_residual-in_err-weight.ensures.1
    (fields_walk.step _ _ c.args.i.now c.in_ok-class.class (Err e) c.in_ok-class.ensures.judged
    (fields_walk.stop _ _ _ e (rw take_rest at c.in_err-weight.ensures.judged)))

pub returns-in_err-size-clause-judged : goal.returns-in_err-size-clause-judged
unfolding header_slots
returns-in_err-size-clause-judged c =
    let e = c.in_err-size.field-0.0 in
    err_passed _ _ _ _ e _ c.from_residual-in_err-size.ensures.1
    (fields_walk.step _ _ c.args.i.now c.in_ok-class.class (Err e) c.in_ok-class.ensures.judged
    (fields_walk.step _ _ _ c.in_ok-weight.weight (Err e) (rw take_rest at c.in_ok-weight.ensures.judged)
    (fields_walk.stop _ _ _ e (rw take_rest at (rw take_rest at c.in_err-size.ensures.judged)))))

pub returns-clause-judged : goal.returns-clause-judged
unfolding header_slots
returns-clause-judged c =
    let weight = c.in_ok-weight.weight in
    let size = Ok c.in_ok-size.size in
    fields_walk.step _ _ c.args.i.now c.in_ok-class.class (after_others weight.used weight.canonical weight.tidy size) c.in_ok-class.ensures.judged
    (fields_walk.step _ _ _ weight size (rw take_rest at c.in_ok-weight.ensures.judged)
    (one_alone fields_walk _ _ size (rw take_rest at (rw take_rest at c.in_ok-size.ensures.judged))))
