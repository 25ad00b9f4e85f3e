-- `put_body_frame`: what it ensures and what calls require.
use Rattle.std.proofs.Common.{arith}
use Rattle.amqp_canonical.proofs.Putting.{tested_room}
use Rattle.amqp_lent.proofs.writing.put_body_frame.Goals as goal

pub put_if_room-end-requires : goal.put_if_room-end-requires
put_if_room-end-requires c = record { room = tested_room (omega (arith, c.requires.few)) }

pub returns : goal.returns
returns c = c.put_frame.ensures _ _ c.put_if_room-end.ensures
