-- `ascends_on`: each entry is canonical, and its key comes after the previous one.
use Rattle.std.proofs.Common.{arith}
use Rattle.std.proofs.lemmas.List.{take_rest}
use Rattle.amqp_entries.proofs.PlainValues.{ascending_end, ascending_step}
use Rattle.amqp_entries.proofs.ordered.ascends_on.Goals as goal

pub loop-rest-init : goal.loop-rest-init
loop-rest-init c = c.requires

pub loop-rest-smaller : goal.loop-rest-smaller
loop-rest-smaller c =
    let entry = c.in-Some.ensures in
    omega (arith, entry.some, entry.fits)

pub loop-rest-preserved : goal.loop-rest-preserved
loop-rest-preserved c =
    let l = c.loop-rest in
    rw take_rest (ascending_step c.args.depth_left c.args.content.now l.rest.now c.in-Some.found.1 l.lowest c.in-Some.found.0
    (λ k. omega (arith, c.type_inv.content k)) (omega arith) c.in-Some.ensures (omega (arith, c.if-lead-lowest.false)) l.invariant)

pub returns : goal.returns
returns c = λ test.
    let l = c.loop-rest in
    ascending_end c.args.depth_left c.args.content.now l.rest.now l.lowest (omega arith) l.invariant
