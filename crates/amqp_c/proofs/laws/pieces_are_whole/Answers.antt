-- `pieces_are_whole`: what it ensures.
use Rattle.amqp_c.proofs.Feeding.{pieces_are_whole}
use Rattle.amqp_c.proofs.laws.pieces_are_whole.Goals as goal

pub returns : goal.returns
returns c = pieces_are_whole
