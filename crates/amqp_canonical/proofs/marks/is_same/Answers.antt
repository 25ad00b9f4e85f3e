-- `is_same`: what it ensures.
use Rattle.std.proofs.Common.{arith}
use Rattle.amqp_canonical.proofs.Leading.{same_lead, size_tells, always, never}
use Rattle.amqp_canonical.proofs.marks.is_same.Goals as goal

pub returns-then-mark-next : goal.returns-then-mark-next
returns-then-mark-next c =
    never _ _ (λ same. c.if-mark-next.true (same_lead _ _ _ c.requires.0 c.requires.1 same).0)

pub returns-then-mark-next-2 : goal.returns-then-mark-next-2
returns-then-mark-next-2 c =
    never _ _ (λ same. c.if-mark-next-2.true (same_lead _ _ _ c.requires.0 c.requires.1 same).1)

pub returns-then-mark-next-3 : goal.returns-then-mark-next-3
returns-then-mark-next-3 c =
    never _ _ (λ same. c.if-mark-next-3.true (same_lead _ _ _ c.requires.0 c.requires.1 same).2)

pub returns-then-mark-le-MARKED : goal.returns-then-mark-le-MARKED
returns-then-mark-le-MARKED c =
    let tells =
    size_tells _ _ _ c.requires.0 c.requires.1
    (λ j. omega (arith, c.type_inv.content j)) c.if-mark-next.false c.if-mark-next-2.false c.if-mark-le-MARKED.true in
    always _ _ (tells.1 c.if-mark-next-3.false)
