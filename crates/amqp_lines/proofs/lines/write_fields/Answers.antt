-- `write_fields`: what it ensures.
use Rattle.amqp_lines.proofs
use proofs.Lining.{fields_none}
use proofs.lines.write_fields.Goals as goal

pub returns-in-None : goal.returns-in-None
returns-in-None c = fields_none _ _ _ _ c.in-None.ensures.slots
