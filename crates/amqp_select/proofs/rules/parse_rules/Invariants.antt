-- `parse_rules`: what loops keep.
use Rattle.std.proofs.Common.{take}
use Rattle.amqp_select.specs.Refusals.{texts_of}
use Rattle.amqp_select.proofs.Reading.{SpelledBy}
use Rattle.amqp_select.proofs.rules.parse_rules.Given as goal

-- the words so far stand for the rules so far
abbrev pub invariant-loop-place : goal.invariant-loop-place
invariant-loop-place l = SpelledBy (take l.place (texts_of l.words)) l.rules.items
