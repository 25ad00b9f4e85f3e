-- `slot_size`: clause `used`.
use Rattle.amqp_canonical.specs.Shapes.{form_of}
use Rattle.amqp_canonical.proofs.SlotParts.{reserved_used}
use Rattle.amqp_canonical.proofs.slot_writing.slot_size.Goals as goal

pub returns-in-Reserved-clause-used : goal.returns-in-Reserved-clause-used
returns-in-Reserved-clause-used c =
    rw c.in-Reserved.is (reserved_used (form_of c.in-Reserved.form) c.args.i.now c.form_size-in-Reserved.result c.form_size-in-Reserved.ensures.used)
