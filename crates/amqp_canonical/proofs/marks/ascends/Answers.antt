-- `ascends`: what it ensures.
use Rattle.std.proofs.Common.{◌<◌, ◌≤◌, arith}
use Rattle.std.proofs.lemmas.Bool.Decides.{nat_tests}
use Rattle.amqp_canonical.proofs.Leading.{lead_tells, more_tells, size_tells}
use Rattle.amqp_canonical.proofs.marks.ascends.Goals as goal
use Rattle.amqp_canonical.proofs.marks.ascends.Goals.{else-previous-gt-MARKED-via-then-previous-gt-MARKED+else-mark-gt-MARKED}
use Rattle.amqp_canonical.proofs.marks.ascends.Goals.{else-previous-gt-MARKED-via-else-previous-gt-MARKED}

pub returns-then-previous-mark : goal.returns-then-previous-mark
returns-then-previous-mark c = λ tested.
    lead_tells _ _ _ c.requires.0 c.requires.1
    (λ k. omega (arith, c.type_inv.content k)) (grind (arith, nat_tests))

pub returns-then-previous-mark-2 : goal.returns-then-previous-mark-2
returns-then-previous-mark-2 c = λ tested.
    more_tells _ _ _ c.requires.0 c.requires.1
    (λ k. omega (arith, c.type_inv.content k)) c.if-previous-mark.false (grind (arith, nat_tests))

pub returns : goal.returns
returns c = λ tested.
    let previous = c.args.previous.now in
    let less : previous.key_size < c.args.mark.now.key_size = grind (arith, nat_tests) in
    let short : previous.key_size ≤ 10 = elim c.else-previous-gt-MARKED.branch [
      | else-previous-gt-MARKED-via-then-previous-gt-MARKED+else-mark-gt-MARKED w ↦ omega (arith, less, w.if-mark-gt-MARKED.false)
      | else-previous-gt-MARKED-via-else-previous-gt-MARKED w ↦ omega (arith, w.if-previous-gt-MARKED.false)
    ] in
    let tells =
    size_tells _ _ _ c.requires.0 c.requires.1
    (λ k. omega (arith, c.type_inv.content k)) c.if-previous-mark.false c.if-previous-mark-2.false short in
    tells.0 less
