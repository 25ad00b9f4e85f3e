-- `count_fields`: what it ensures.
use Rattle.std.proofs.Common.{ap, ◌∙◌}
use Rattle.amqp_fields.proofs.Names.{count_of}
use Rattle.amqp_fields.proofs.Counted.{frame_counted}
use Rattle.amqp_fields.proofs.counting.count_fields.Goals as goal

pub returns : goal.returns
returns c =
    λ kind channel frame is outlined. c.count_by.ensures ∙ ap (count_of c.args.payload.now) outlined ∙ frame_counted kind channel c.args.payload.now frame is
