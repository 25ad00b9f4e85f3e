-- `lay_front`: what it ensures.
use Rattle.amqp_fields_write.proofs
use proofs.Names.{numbers}
use proofs.Quick.{parts_laid}
use proofs.laying_frames.lay_front.Goals as goal

pub returns : goal.returns
returns g c =
    parts_laid _ _ _ (grind numbers)
    c.put_short_uint-weight_at.ensures c.put_short_uint-size_at.ensures c.put_long_long_uint.ensures
