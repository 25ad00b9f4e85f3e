-- `next_two`: what it ensures.
use Rattle.std.proofs.Common.{arith}
use Rattle.amqp_canonical.proofs.Leading.{two_are, beyond}
use Rattle.amqp_canonical.proofs.leads.next_two.Goals as goal

pub returns-in_default : goal.returns-in_default
returns-in_default c =
    let key = c.args.key.now in
    omega (arith, two_are key, beyond key 8 (omega (arith, c.in_default.len_below)), beyond key 9 (omega (arith, c.in_default.len_below)))
