-- `write_hex`: what loops keep.
use Rattle.amqp_lines.proofs
use proofs.Names.{◌≡◌, ◌++◌, take, flat_map, hex_byte}
use proofs.words.write_hex.Given as goal

abbrev pub invariant-loop-byte : goal.invariant-loop-byte
invariant-loop-byte l = l.out.items ≡ l.fn.out.items ++ flat_map hex_byte (take l.byte-index l.bytes)
