-- `write_quoted`: what loops keep.
use Rattle.amqp_lines.proofs
use proofs.Names.{◌≡◌, ◌++◌, take, codes, flat_map, escaped}
use proofs.words.write_quoted.Given as goal

abbrev pub invariant-loop-byte : goal.invariant-loop-byte
invariant-loop-byte l = l.out.items ≡ l.fn.out.items ++ (codes "\"" ++ flat_map escaped (take l.byte-index l.bytes))
