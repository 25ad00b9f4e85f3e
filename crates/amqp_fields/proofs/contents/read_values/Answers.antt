-- `read_values`: clause `bound`.
use Rattle.amqp_fields.proofs.ContentsFound.{values_few}
use Rattle.amqp_fields.proofs.contents.read_values.Goals as goal

pub returns-then-count-nodes-clause-bound : goal.returns-then-count-nodes-clause-bound
returns-then-count-nodes-clause-bound c = values_few c.args.content.now

pub returns-clause-bound : goal.returns-clause-bound
returns-clause-bound c = values_few c.args.content.now
