-- `without_covered`: what loops keep.
use Rattle.std.proofs.Common.{◌≡◌, ◌++◌}
use Rattle.amqp_select.specs.Covering.{uncovered}
use Rattle.amqp_select.proofs.Uncovered.{uncovered_from}
use Rattle.amqp_select.proofs.rules.without_covered.Given as goal

-- what is kept and what will be is what no earlier rule covers
abbrev pub invariant-loop-k : goal.invariant-loop-k
invariant-loop-k l = l.kept.items ++ uncovered_from l.rules l.k ≡ uncovered l.rules
