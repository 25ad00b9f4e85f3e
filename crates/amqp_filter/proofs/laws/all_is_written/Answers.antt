-- `all_is_written`: what it ensures.
use Rattle.amqp_filter.proofs.LawsStates.{all_is_written}
use Rattle.amqp_filter.proofs.laws.all_is_written.Goals as goal

pub returns : goal.returns
returns c = all_is_written
