-- `read_as`: clause `whole`.
use Rattle.amqp_frame.proofs.parsing.read_as.Goals as goal

pub returns-in-Ok-clause-whole : goal.returns-in-Ok-clause-whole
returns-in-Ok-clause-whole c = rw c.in-ProtocolHeader.is (c.in-Ok.ensures.whole c.args.channel_id)

pub returns-in-Err-clause-whole : goal.returns-in-Err-clause-whole
returns-in-Err-clause-whole c = rw c.in-ProtocolHeader.is (c.in-Err.ensures.whole c.args.channel_id)
