-- `OpenMessages::forget`: what it ensures.
use Rattle.std.proofs.Common.{None}
use Rattle.amqp_turns.proofs.Holding.{holding_updated}
use Rattle.amqp_in_turn.proofs.open_messages.OpenMessages.forget.Goals as goal

pub returns : goal.returns
returns g c =
    rw (← c.self.view_is)
    (holding_updated c.self.inside.channels c.forget.new.self c.args.channel_id None c.forget.ensures.kept c.forget.ensures.others)
