-- `read_properties`: what it ensures.
use Rattle.amqp_lines.proofs
use proofs.Names.{properties, read_set, read_properties}
use proofs.ReadSteps.{properties_read}
use proofs.reading.slots.read_properties.Goals as goal

pub returns : goal.returns
unfolding read_properties
returns c =
    properties_read _ _ (read_set properties _) _ _ _ _ _ c.in_ok-place.ensures.place c.in_ok-place.ensures.zeros
    (rw c.property_shapes.ensures at c.in_ok-mask.ensures) c.put_last.ensures
