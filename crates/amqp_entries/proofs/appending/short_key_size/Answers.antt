-- A short ASCII key has no flaw.
use Rattle.std.proofs.Common.{arith}
use Rattle.amqp_entries.proofs.Sizes.{known_size, short_is_size}
use Rattle.amqp_entries.proofs.appending.short_key_size.Goals as goal

pub returns-clause-size : goal.returns-clause-size
returns-clause-size c =
    let few = c.requires.few in
    known_size _ _ _ (short_is_size c.args.key.now (omega (arith, few)) c.requires.ascii) (omega (arith, few))
