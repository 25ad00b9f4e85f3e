-- `bodies_are_cut_as_one`: what it ensures.
use Rattle.amqp_c.proofs.BodiesCut.{bodies_as_one}
use Rattle.amqp_c.proofs.laws.bodies_are_cut_as_one.Goals as goal

pub returns : goal.returns
returns c = bodies_as_one
