-- `equal_flags`: what it ensures.
use Rattle.std.proofs.Common.{◌≡◌, ◌↔◌, IsTrue, List, Bool}
use Rattle.std.specs.Cmp.{booleans_Decides}
use Rattle.std.specs.Cmp.Lexicographic.{pointwise}
use Rattle.std.specs.Bool.{beq}
use lib.Pointwise.{pointwise_decides}
use Rattle.amqp_types.proofs.equality.equal_flags.Goals as goal

flags_decide : (flags others : List Bool) → IsTrue (pointwise beq flags others) ↔ (flags ≡ others)
flags_decide = pointwise_decides booleans_Decides

pub returns : goal.returns
returns c = rw c.eq.ensures (flags_decide c.args.a.now c.args.b.now)
