-- `header_in`: clause `same`.
use Rattle.amqp_lent.proofs.Standing.{header_whole}
use Rattle.amqp_lent.proofs.frame.header_in.Goals as goal

pub returns-clause-same : goal.returns-clause-same
returns-clause-same c = header_whole c.args.channel _ c.args.payload.now c.header_parts-class_id.ensures.same c.header_parts-class_id.ensures.as_many
