-- `why_refused`: what loops keep.
use Rattle.std.proofs.Common.{List, take}
use Rattle.amqp_select.specs.declared.rule.Rule.{Rule}
use Rattle.amqp_select.specs.Refusals.{texts_of}
use Rattle.amqp_select.proofs.Reading.{SpelledBy}
use Rattle.amqp_select.proofs.rules.why_refused.Given as goal

-- the words so far stand for rules
abbrev pub invariant-loop-place : goal.invariant-loop-place
invariant-loop-place l = (rules : List Rule) × SpelledBy (take l.place (texts_of l.words)) rules
