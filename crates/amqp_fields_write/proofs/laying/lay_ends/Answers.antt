-- `lay_ends`: what it ensures.
use Rattle.amqp_fields_write.proofs
use proofs.Names.{arith, numbers}
use proofs.Quick.{string_counted, string_put}
use proofs.laying.lay_ends.Goals as goal

pub returns-then-not-is_putting : goal.returns-then-not-is_putting
returns-then-not-is_putting g c = string_counted _ (grind arith) c.plus.ensures

pub returns : goal.returns
returns g c = string_put _ (grind numbers) c.put_bytes-place.ensures c.put_ends.ensures
