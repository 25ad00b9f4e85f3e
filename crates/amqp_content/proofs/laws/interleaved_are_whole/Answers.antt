-- `interleaved_are_whole`: what it ensures.
use Rattle.amqp_content.proofs.SplitAndBack.{interleaved_whole}
use Rattle.amqp_content.proofs.laws.interleaved_are_whole.Goals as goal

pub returns : goal.returns
returns c = interleaved_whole
