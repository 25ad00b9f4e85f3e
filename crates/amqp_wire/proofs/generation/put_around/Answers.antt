-- `put_around`: what it ensures.
use Rattle.std.proofs.Common.{refl}
use Rattle.amqp_wire.proofs.Sizes.{puts_around}
use Rattle.amqp_wire.proofs.generation.put_around.Goals as goal

pub returns : goal.returns
returns c = λ before payload inner room.
    puts_around before c.args.buf.now c.put_head.new.buf c.put_array.new.buf c.args.at c.args.end c.put_head.result
    c.put_array.result c.args.frame_type c.args.channel_id _ payload refl room inner c.put_head.ensures c.put_array.ensures
