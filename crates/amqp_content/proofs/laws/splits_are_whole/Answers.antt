-- `splits_are_whole`: what it ensures.
use Rattle.amqp_content.proofs.SplitAndBack.{splits_whole}
use Rattle.amqp_content.proofs.laws.splits_are_whole.Goals as goal

pub returns : goal.returns
returns c = splits_whole
