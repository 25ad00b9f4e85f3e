-- `write_signs`: what loops keep.
use Rattle.amqp_lines.proofs
use proofs.Names.{◌≡◌, ◌++◌, map, flags_from, sign}
use proofs.words.write_signs.Given as goal

abbrev pub invariant-loop-k : goal.invariant-loop-k
invariant-loop-k l = l.out.items ≡ l.fn.out.items ++ map sign (flags_from l.k 0 l.byte)
