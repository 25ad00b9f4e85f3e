-- `last_entry`: what loops keep and what falls with each iteration or call.
use Rattle.std.proofs.Common.{◌-◌, ℕ, length}
use Rattle.amqp_canonical.specs.Marks.{AreEntries}
use Rattle.amqp_lent.proofs.Finding.{LastTo}
use Rattle.amqp_lent.proofs.table.last_entry.Given as goal

abbrev pub invariant-loop-at : goal.invariant-loop-at
invariant-loop-at l = (room : ℕ) → AreEntries room l.content → LastTo room l.content l.key l.at l.found

abbrev pub decreases-loop-at : goal.decreases-loop-at
decreases-loop-at l = length l.content - l.at
