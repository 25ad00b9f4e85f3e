-- `move_front`: what it ensures.
use Rattle.std.proofs.Common.{sym}
use Rattle.amqp_c.proofs.InPlace.{moved_front, moved_nowhere}
use Rattle.amqp_c.proofs.in_place.move_front.Goals as goal

pub returns-then-to-from : goal.returns-then-to-from
returns-then-to-from c = moved_nowhere c.args.buf.now c.args.from c.args.count c.args.to c.requires.inside (sym c.if-to-from.true)

pub returns : goal.returns
returns c = moved_front c.args.buf.now c.args.from c.args.count c.args.to c.requires.inside c.copy_within.new.self c.copy_within.ensures.after
