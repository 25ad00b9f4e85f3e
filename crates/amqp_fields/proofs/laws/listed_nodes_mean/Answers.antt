-- `listed_nodes_mean`: what it ensures.
use Rattle.amqp_fields.proofs.Answering.{listed_mean}
use Rattle.amqp_fields.proofs.ContentsFound.{entries_mean, values_mean}
use Rattle.amqp_fields.proofs.laws.listed_nodes_mean.Goals as goal

pub returns : goal.returns
returns c = record { payload = listed_mean; entries = entries_mean; values = values_mean }
