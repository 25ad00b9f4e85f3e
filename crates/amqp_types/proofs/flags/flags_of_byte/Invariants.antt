-- `flags_of_byte`: what loops keep.
use Rattle.std.proofs.Common.{◌≡◌}
use Rattle.amqp_types.specs.Flags.{flags_from}
use Rattle.amqp_types.proofs.flags.flags_of_byte.Given as goal

abbrev pub invariant-loop-k : goal.invariant-loop-k
invariant-loop-k l = l.flags ≡ flags_from l.k 0 l.byte
