-- `next_entry`: what loops keep and what falls with each iteration or call.
use Rattle.std.proofs.Common.{◌-◌, ℕ, length, option_map}
use Rattle.amqp_canonical.specs.Marks.{AreEntries}
use Rattle.amqp_canonical.proofs.NextKey.{LookedTo}
use Rattle.amqp_canonical.proofs.selection.next_entry.Given as goal

abbrev pub invariant-loop-at : goal.invariant-loop-at
invariant-loop-at l = (room : ℕ) → AreEntries room l.content → LookedTo room l.content (option_map (λ k. k.now) l.last) l.at l.found

abbrev pub decreases-loop-at : goal.decreases-loop-at
decreases-loop-at l = length l.content - l.at
