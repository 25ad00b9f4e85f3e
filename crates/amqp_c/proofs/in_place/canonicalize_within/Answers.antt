-- `canonicalize_within`: what it ensures, what loops keep, what falls with each iteration and that no place or sum is out of range.
use Rattle.std.proofs.Common.{◌<◌, ◌≤◌, length, rules, arith, sym}
use Rattle.std.proofs.lemmas.List.{take_rest}
use Rattle.amqp_c.proofs.Fronts.{going_start, going_stops, going_finishes}
use Rattle.amqp_c.proofs.InPlace.{going_lacks, going_length, going_next, going_rest, frame_falls, next_kept, next_spare}
use Rattle.amqp_c.proofs.in_place.canonicalize_within.Goals as goal

pub frames-init : goal.frames-init
frames-init c = going_start _ _ _ _

-- ---- a canonical frame

pub move_front-written-requires-clause-inside : goal.move_front-written-requires-clause-inside
move_front-written-requires-clause-inside c =
    let next = next_kept c.frames.invariant (rw c.in-Ok-Kept.field-0-is at c.in-Ok-Kept.ensures) in
    (frame_falls c.frames.invariant next).1

pub overflow_add-used : goal.overflow_add-used
overflow_add-used c =
    let next = next_kept c.frames.invariant (rw c.in-Ok-Kept.field-0-is at c.in-Ok-Kept.ensures) in
    let falls = frame_falls c.frames.invariant next in
    search (rules, falls.2)

pub frames-smaller-in-Ok-Kept : goal.frames-smaller-in-Ok-Kept
frames-smaller-in-Ok-Kept c =
    let next = next_kept c.frames.invariant (rw c.in-Ok-Kept.field-0-is at c.in-Ok-Kept.ensures) in
    omega (arith, frame_falls c.frames.invariant next, c.move_front-written.auto.buf)

pub frames-preserved-in-Ok-Kept : goal.frames-preserved-in-Ok-Kept
frames-preserved-in-Ok-Kept c =
    let next = next_kept c.frames.invariant (rw c.in-Ok-Kept.field-0-is at c.in-Ok-Kept.ensures) in
    going_next c.frames.invariant next c.move_front-written.ensures

-- ---- a frame that goes through the spare buffer

pub put_bytes-written-requires : goal.put_bytes-written-requires
put_bytes-written-requires c =
    let next = next_spare c.frames.invariant c.rewrite_front.new.spare (rw c.in-Ok-Spare.field-0-is at c.in-Ok-Spare.ensures) in
    record { room = (frame_falls c.frames.invariant next).3 }

pub overflow_add-used-in-Ok-Spare : goal.overflow_add-used-in-Ok-Spare
overflow_add-used-in-Ok-Spare c =
    let next = next_spare c.frames.invariant c.rewrite_front.new.spare (rw c.in-Ok-Spare.field-0-is at c.in-Ok-Spare.ensures) in
    let falls = frame_falls c.frames.invariant next in
    search (rules, falls.2)

pub frames-smaller : goal.frames-smaller
frames-smaller c =
    let next = next_spare c.frames.invariant c.rewrite_front.new.spare (rw c.in-Ok-Spare.field-0-is at c.in-Ok-Spare.ensures) in
    omega (arith, frame_falls c.frames.invariant next, c.put_bytes-written.auto.buf)

pub frames-preserved : goal.frames-preserved
frames-preserved c =
    let next = next_spare c.frames.invariant c.rewrite_front.new.spare (rw c.in-Ok-Spare.field-0-is at c.in-Ok-Spare.ensures) in
    going_next c.frames.invariant next c.put_bytes-written.ensures

-- ---- what is returned

pub returns-in-Ok-NoRoom-clause-stops : goal.returns-in-Ok-NoRoom-clause-stops
returns-in-Ok-NoRoom-clause-stops c = λ status.
    let lacks = rw take_rest at (rw c.in-Ok-NoRoom.field-0-is at c.in-Ok-NoRoom.ensures) in
    rw (c.came.ensures, sym c.frames.auto.spare) (going_lacks c.frames.invariant _ lacks)

pub returns-in-Err-clause-canonicalizes : goal.returns-in-Err-clause-canonicalizes
returns-in-Err-clause-canonicalizes c = λ status.
    let stop = rw (going_rest c.frames.invariant) at (rw take_rest at c.in-Err.ensures) in
    let some : c.frames.used < length c.args.bytes.now = omega (arith, c.frames-test.true, going_length c.frames.invariant) in
    rw (c.came-in-Err.ensures, c.status.ensures) (going_stops c.frames.invariant c.in-Err.error some stop)

pub returns-clause-canonicalizes : goal.returns-clause-canonicalizes
returns-clause-canonicalizes c = λ status.
    let all : length c.args.bytes.now ≤ c.frames.used = omega (arith, c.frames-test.false, going_length c.frames.invariant) in
    rw c.came-2.ensures (going_finishes c.frames.invariant all)

-- ---- the buffer keeps its length

pub shape_of-bytes-in-Ok-NoRoom : goal.shape_of-bytes-in-Ok-NoRoom
shape_of-bytes-in-Ok-NoRoom c = going_length c.frames.invariant

pub shape_of-bytes-in-Err : goal.shape_of-bytes-in-Err
shape_of-bytes-in-Err c = going_length c.frames.invariant

pub shape_of-bytes : goal.shape_of-bytes
shape_of-bytes c = going_length c.frames.invariant
