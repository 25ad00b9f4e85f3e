-- `lay_long`: what it ensures.
use Rattle.amqp_fields_write.proofs
use proofs.Names.{numbers}
use proofs.Quick.{bytes_as, long_laid}
use proofs.laying.lay_long.Goals as goal

pub returns : goal.returns
returns g c =
    long_laid _ _ (grind (numbers, c.if-bytes.false))
    (bytes_as c.to_be_bytes.ensures c.lay-place.ensures) c.lay_bytes.ensures
