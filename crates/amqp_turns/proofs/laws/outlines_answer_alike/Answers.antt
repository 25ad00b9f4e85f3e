-- `outlines_answer_alike`: what it ensures.
use Rattle.amqp_wire.specs.Outlines.{outline_of}
use Rattle.amqp_turns.proofs.Outlined.{answers_outlined}
use Rattle.amqp_turns.proofs.laws.outlines_answer_alike.Goals as goal

pub returns : goal.returns
returns c = answers_outlined outline_of
