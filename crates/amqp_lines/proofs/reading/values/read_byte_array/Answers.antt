-- `read_byte_array`: what it ensures.
use Rattle.amqp_lines.proofs
use proofs.Names.{arith, read_hex, read_byte_array}
use proofs.ReadSteps.{framed_read}
use proofs.reading.values.read_byte_array.Goals as goal

pub returns : goal.returns
unfolding read_byte_array
returns c =
    framed_read 4 _ (read_hex _) _ _ _ _ _
    (omega arith) c.in_ok-place.ensures.place c.in_ok-place.ensures.zeros c.in_ok-rest.ensures c.put_length.ensures
