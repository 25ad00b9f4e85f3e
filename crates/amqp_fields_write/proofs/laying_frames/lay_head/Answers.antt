-- `lay_head`: what it ensures.
use Rattle.amqp_fields_write.proofs
use proofs.Names.{numbers}
use proofs.Quick.{parts_laid}
use proofs.laying_frames.lay_head.Goals as goal

pub returns : goal.returns
returns g c =
    parts_laid _ _ _ (grind numbers)
    c.put_bytes-channel_at.ensures c.put_short_uint-length_at.ensures c.put_long_uint.ensures
