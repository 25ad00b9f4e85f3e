-- `MessageFilter::keep`: what it ensures of a frame that stands alone.
use Rattle.amqp_wire.specs.Frames.{raw_of}
use Rattle.amqp_filter.proofs.Stepping.{alone_steps}
use Rattle.amqp_filter.proofs.message_filter.MessageFilter.keep.Goals as goal

pub returns-then-stands_alone : goal.returns-then-stands_alone
returns-then-stands_alone c =
    alone_steps c.args.self.now (raw_of c.args.raw) c.decide-kept.result c.is_empty.result c.is_empty.ensures c.if-is_empty.true
    (λ frame h. c.stands_alone.ensures frame h c.if-stands_alone.true) c.decide-kept.ensures
