-- `written_again`: what it ensures.
use Rattle.amqp_wire.proofs.Strictness.{gives_itself}
use Rattle.amqp_wire.proofs.laws.written_again.Goals as goal

pub returns : goal.returns
returns c = gives_itself
