-- `put_canonical`: what a call requires, and clause `within`.
use Rattle.std.proofs.Common.{length, arith}
use Rattle.amqp_wire.proofs.Rewritten.{around_most}
use Rattle.amqp_wire.proofs.rewriting.put_canonical.Goals as goal

pub put_judged-requires-clause-room : goal.put_judged-requires-clause-room
put_judged-requires-clause-room c = omega (arith, c.requires.room, around_most c.args.raw.frame_type (length c.args.raw.payload.now))

pub returns-clause-within : goal.returns-clause-within
returns-clause-within c = omega (arith, c.put_judged.ensures.within, around_most c.args.raw.frame_type (length c.args.raw.payload.now))
