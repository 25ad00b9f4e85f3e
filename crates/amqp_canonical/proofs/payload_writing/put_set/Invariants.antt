-- `put_set`: what loops keep.
use Rattle.amqp_canonical.proofs.PayloadParts.{SetPut}
use Rattle.amqp_canonical.proofs.payload_writing.put_set.Given as goal

abbrev pub invariant-loop-shape : goal.invariant-loop-shape
invariant-loop-shape g l = SetPut l.mask l.i l.rest l.shape-index l.fn.buf l.buf l.at l.end
