-- `verdicts_are_stable`: what it ensures.
use Rattle.amqp_wire.proofs.Cuts.{verdict-append}
use Rattle.amqp_wire.proofs.laws.verdicts_are_stable.Goals as goal

pub returns : goal.returns
returns c = verdict-append
