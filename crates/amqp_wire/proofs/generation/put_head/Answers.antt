-- `put_head`: what it ensures.
use Rattle.amqp_wire.proofs.Sizes.{puts_head}
use Rattle.amqp_wire.proofs.generation.put_head.Goals as goal

pub returns : goal.returns
returns c =
    puts_head _ _ _ _ _ _ _ _ c.args.frame_type c.args.channel_id c.args.len c.requires
    c.put_array-at.ensures c.put_short_uint-at.ensures c.put_long_uint.ensures
