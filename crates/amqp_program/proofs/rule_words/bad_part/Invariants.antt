-- `bad_part`: what the loop keeps.
use Rattle.amqp_program.proofs.RuleParts.{PartSoFar}
use Rattle.amqp_program.proofs.rule_words.bad_part.Given as goal

abbrev pub invariant-loop-stop : goal.invariant-loop-stop
invariant-loop-stop l = PartSoFar l.word l.start l.stop
