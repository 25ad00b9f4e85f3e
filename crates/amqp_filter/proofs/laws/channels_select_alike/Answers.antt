-- `channels_select_alike`: what it ensures.
use Rattle.amqp_filter.proofs.LawsSelect.{selects_alike}
use Rattle.amqp_filter.proofs.laws.channels_select_alike.Goals as goal

pub returns : goal.returns
returns c = selects_alike
