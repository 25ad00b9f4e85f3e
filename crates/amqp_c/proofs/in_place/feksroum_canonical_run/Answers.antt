-- `feksroum_canonical_run`: what it ensures, what loops keep, what falls with each iteration and that no place or sum is out of range.
use Rattle.std.proofs.Common.{rules, arith}
use Rattle.std.proofs.lemmas.List.{take_rest}
use Rattle.amqp_types.specs.Levels.{strict}
use Rattle.amqp_c.proofs.Fronts.{running_falls, running_on, running_start, stops, unscanned}
use Rattle.amqp_c.proofs.InPlace.{run_finishes, run_found, run_missed, run_refused, run_stops}
use Rattle.amqp_c.proofs.in_place.feksroum_canonical_run.Goals as goal

pub frames-init : goal.frames-init
frames-init c = running_start _ _ _

pub overflow_add-used : goal.overflow_add-used
overflow_add-used c =
    let found = run_found (rw take_rest at c.in-Ok.ensures) (rw take_rest at c.frame_at.ensures) c.in-Ok-judge_frame.ensures c.if-judged.true in
    let falls = running_falls c.frames.invariant found in
    search (rules, falls.1)

pub frames-smaller : goal.frames-smaller
frames-smaller c =
    let found = run_found (rw take_rest at c.in-Ok.ensures) (rw take_rest at c.frame_at.ensures) c.in-Ok-judge_frame.ensures c.if-judged.true in
    omega (arith, running_falls c.frames.invariant found)

pub frames-preserved : goal.frames-preserved
frames-preserved c =
    running_on c.frames.invariant
    (run_found (rw take_rest at c.in-Ok.ensures) (rw take_rest at c.frame_at.ensures) c.in-Ok-judge_frame.ensures c.if-judged.true)

pub returns-in-Err : goal.returns-in-Err
returns-in-Err c =
    let error = unscanned strict c.args.max_payload _ c.in-Err.field-0 (rw take_rest at c.in-Err.ensures) in
    run_stops c.frames.invariant c.are_bytes.ensures (stops _ c.in-Err.field-0 error)

pub returns-in-Err-judge_frame : goal.returns-in-Err-judge_frame
returns-in-Err-judge_frame c =
    let refused = c.in-Err-judge_frame.ensures in
    run_stops c.frames.invariant c.are_bytes.ensures
    (run_refused (rw take_rest at c.in-Ok.ensures) (rw take_rest at c.frame_at.ensures) c.in-Err-judge_frame.field-0 refused.0.0 refused.0.1 refused.1)

pub returns-in-Ok-2 : goal.returns-in-Ok-2
returns-in-Ok-2 c =
    run_stops c.frames.invariant c.are_bytes.ensures
    (run_missed (rw take_rest at c.in-Ok.ensures) (rw take_rest at c.frame_at.ensures) c.in-Ok-judge_frame.ensures c.if-judged.false)

pub returns : goal.returns
returns c = run_finishes c.frames.invariant c.are_bytes.ensures c.frames-test.false
