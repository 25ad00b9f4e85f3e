-- `read_frames`: what it ensures, what the loop keeps, and that no sum is out of range.
use Rattle.std.proofs.Common.{length-take, rules, arith, ap, length, refl, ◌<◌, ◌+◌}
use Rattle.amqp_fields.proofs.Names.{FramesRead}
use Rattle.amqp_fields.specs.declared.frames.FramesEnd.TheVariants as ends
use Rattle.amqp_fields.proofs.FramesGiven.{all_read, going_full, going_given, going_on, going_stays, next_few}
use Rattle.amqp_fields.proofs.frames.read_frames.Goals as goal
use Rattle.amqp_fields.proofs.frames.read_frames.Goals.{then-count-heads-via-then-count-heads, then-count-heads-via-else-count-heads+then-more-nodes}

pub read_next-requires-clause-few : goal.read_next-requires-clause-few
read_next-requires-clause-few c = omega (arith, ap length c.in_reach-reach.ensures, length-take 4294967295 c.args.bytes.now)

pub overflow_add-more : goal.overflow_add-more
overflow_add-more c =
    let next = c.in-Ok.ensures in
    search (rules, next_few c.loop-used.invariant next, next.within, ap length c.in_reach-reach.ensures, length-take 4294967295 c.args.bytes.now)

pub returns-then-count-heads-clause-frames : goal.returns-then-count-heads-clause-frames
returns-then-count-heads-clause-frames c =
    let reach = c.in_reach-reach.ensures in
    going_given _ _ _ _ _ _ (rw reach at (going_stays c.loop-used.invariant c.in-Ok.ensures))

pub returns-then-count-heads-clause-end : goal.returns-then-count-heads-clause-end
returns-then-count-heads-clause-end c =
    let no_room : c.loop-used.count < length c.loop-used.heads → length c.read_next.new.nodes < c.loop-used.total + c.in-Ok.found.1.nodes =
    λ room. elim c.then-count-heads.branch [
      | then-count-heads-via-then-count-heads w ↦ absurd (omega (arith, room, w.if-count-heads))
      | then-count-heads-via-else-count-heads+then-more-nodes w ↦ omega (arith, w.if-more-nodes)
    ] in
    let read : FramesRead = record { used = c.loop-used.used; heads = c.loop-used.count; nodes = c.loop-used.total; end = ends.Full c.in-Ok.found.1.nodes } in
    let full =
    going_full c.loop-used.invariant c.in-Ok.ensures read (length c.loop-used.heads) (length c.read_next.new.nodes) c.in-Ok.found.1.nodes refl refl no_room in
    rw c.in_reach-reach.ensures at full

pub loop-used-preserved : goal.loop-used-preserved
loop-used-preserved c = going_on c.loop-used.invariant c.in-Ok.ensures (grind arith) (grind arith)

pub returns-clause-end : goal.returns-clause-end
returns-clause-end c =
    let within = rw c.in_reach-reach.ensures at c.loop-used.invariant.within in
    all_read c.args.bytes.now c.loop-used.used c.loop-used-test.false within
