-- `canonicalize`: what it ensures, what loops keep, what falls with each iteration and that no place or sum is out of range.
use Rattle.std.proofs.Common.{rules, arith}
use Rattle.std.proofs.lemmas.List.{take_rest}
use Rattle.amqp_c.proofs.Fronts.{going_start, going_on, running_falls, going_stops, going_finishes}
use Rattle.amqp_c.proofs.canonicalize.canonicalize.Goals as goal

pub frames-init : goal.frames-init
frames-init c = going_start _ _ _ _

pub overflow_add-used : goal.overflow_add-used
overflow_add-used c = let falls = running_falls c.frames.invariant.run (rw take_rest at c.in-Ok.ensures).found in search (rules, falls.1)

pub frames-smaller : goal.frames-smaller
frames-smaller c = omega (arith, running_falls c.frames.invariant.run (rw take_rest at c.in-Ok.ensures).found)

pub frames-preserved : goal.frames-preserved
frames-preserved c = going_on c.frames.invariant c.requires.room (rw take_rest at c.in-Ok.ensures)

pub returns-in-Err : goal.returns-in-Err
returns-in-Err c =
    let stop = rw take_rest at c.in-Err.ensures in
    rw (c.came.ensures, c.status.ensures, stop.1) (going_stops c.frames.invariant c.in-Err.error c.frames-test.true stop.0)

pub returns : goal.returns
returns c = rw c.came-2.ensures (going_finishes c.frames.invariant c.frames-test.false)
