-- `byte_of_flags`, which calls itself: what falls with each iteration or call.
use Rattle.std.proofs.Common.{length}
use Rattle.amqp_types.proofs.flags.+byte_of_flags.Given as goal

abbrev pub decreases-byte_of_flags : goal.decreases-byte_of_flags
decreases-byte_of_flags l = length l.flags.now
