-- `Channels::get`: what it ensures.
use Rattle.std.proofs.Common.{sym, ◌∙◌}
use Rattle.amqp_turns.proofs.LastEntry.{kept_of, kept_beside}
use Rattle.amqp_turns.proofs.channels.Channels.get.Goals as goal

pub returns-then-is_of : goal.returns-then-is_of
returns-then-is_of g c =
    c.value_of.ensures
    ∙ kept_of _ _ _ c.self.view_is c.args.channel_id (sym c.is_of.ensures ∙ c.if-is_of.true)

pub returns : goal.returns
returns g c =
    c.get_from.ensures
    ∙ kept_beside _ _ _ c.self.view_is c.args.channel_id (sym c.is_of.ensures ∙ c.if-is_of.false)
