-- `write_slot`: what it ensures.
use Rattle.amqp_lines.proofs
use proofs.RenderedSlots.{reserved_written}
use proofs.slots.write_slot.Goals as goal

pub returns-in-Reserved : goal.returns-in-Reserved
returns-in-Reserved c =
    reserved_written _ _ _ _ _ c.in-Reserved.is c.form_size.ensures.used
