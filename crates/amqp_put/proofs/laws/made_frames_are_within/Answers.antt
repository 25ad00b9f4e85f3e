-- `made_frames_are_within`: what it ensures.
use Rattle.amqp_put.proofs.MadeLaws.{frames_within}
use Rattle.amqp_put.proofs.laws.made_frames_are_within.Goals as goal

pub returns : goal.returns
returns c = frames_within
