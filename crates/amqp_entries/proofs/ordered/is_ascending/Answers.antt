-- `is_ascending`: each entry is canonical, and its key comes after the previous one.
use Rattle.std.proofs.Common.{◌+◌, arith}
use Rattle.std.proofs.lemmas.List.{take_rest}
use Rattle.amqp_entries.proofs.PlainValues.{ascending_end, ascending_start, ascending_step}
use Rattle.amqp_entries.proofs.ordered.is_ascending.Goals as goal

pub loop-rest-init : goal.loop-rest-init
loop-rest-init c = ascending_start c.args.depth_left c.args.content.now 1

pub loop-rest-smaller : goal.loop-rest-smaller
loop-rest-smaller c =
    let entry = c.in-Some.ensures in
    omega (arith, entry.some, entry.fits)

pub loop-rest-preserved : goal.loop-rest-preserved
loop-rest-preserved c =
    let l = c.loop-rest in
    rw take_rest (ascending_step c.args.depth_left c.args.content.now l.rest.now c.in-Some.found.1 (l.previous + 1) c.in-Some.found.0
    (λ k. omega (arith, c.type_inv.content k)) (omega arith) c.in-Some.ensures (omega (arith, c.if-lead-previous.false)) l.invariant)

pub returns : goal.returns
returns c = λ test.
    let l = c.loop-rest in
    ascending_end c.args.depth_left c.args.content.now l.rest.now (l.previous + 1) (omega arith) l.invariant

pub ascends_on-requires : goal.ascends_on-requires
ascends_on-requires c = c.loop-rest.invariant

pub ascends_on-requires-then-lead-previous : goal.ascends_on-requires-then-lead-previous
ascends_on-requires-then-lead-previous c = c.loop-rest.invariant
