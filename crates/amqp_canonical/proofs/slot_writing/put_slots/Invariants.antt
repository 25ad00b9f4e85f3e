-- `put_slots`: what loops keep.
use Rattle.amqp_canonical.specs.Shapes.{slots_of}
use Rattle.amqp_canonical.proofs.SlotParts.{SlotsPut}
use Rattle.amqp_canonical.proofs.slot_writing.put_slots.Given as goal

abbrev pub invariant-loop-shape : goal.invariant-loop-shape
invariant-loop-shape g l = SlotsPut (slots_of l.shapes) l.i l.rest l.shape-index l.fn.buf l.buf l.at l.end
