-- `MessageFilter::keeps_alone`: what it ensures.
use Rattle.std.proofs.Common.{true, sym}
use Rattle.amqp_wire.specs.Frames.{raw_of}
use Rattle.amqp_wire.specs.Outlines.{outline_of}
use Rattle.amqp_filter.proofs.Stepping.{alone_steps}
use Rattle.amqp_filter.proofs.message_filter.MessageFilter.keeps_alone.Goals as goal

pub returns : goal.returns
returns c = λ empty.
    alone_steps c.args.self.now (raw_of c.args.raw) true c.is_empty.result c.is_empty.ensures empty
    (λ frame h. c.stands_alone.ensures frame h c.if-not-stands_alone.false) (λ frame h. sym (c.keep_all.ensures (outline_of frame) c.if-not-keep_all.false))
