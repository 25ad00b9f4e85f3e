-- `made_bytes_read_back`: what it ensures.
use Rattle.amqp_put.proofs.MadeLaws.{bytes_back}
use Rattle.amqp_put.proofs.laws.made_bytes_read_back.Goals as goal

pub returns : goal.returns
returns c = bytes_back
