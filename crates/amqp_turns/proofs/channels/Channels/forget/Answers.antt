-- `Channels::forget`: clauses `kept` and `others`.
use Rattle.std.proofs.Common.{sym, ◌∙◌}
use Rattle.amqp_turns.proofs.Entries.{at_other}
use Rattle.amqp_turns.proofs.LastEntry.{others_of, kept_with, others_beside}
use Rattle.amqp_turns.proofs.channels.Channels.forget.Goals as goal

pub returns-then-is_of-clause-others : goal.returns-then-is_of-clause-others
returns-then-is_of-clause-others g c =
    others_of _ _ _ c.self.view_is c.args.channel_id (sym c.is_of.ensures ∙ c.if-is_of.true)

pub returns-clause-kept : goal.returns-clause-kept
returns-clause-kept g c =
    kept_with _ _ _ c.self.view_is c.args.channel_id
    (sym c.is_of.ensures ∙ c.if-is_of.false) c.remove.new.self.entries _ c.remove.ensures.updates.1

pub returns-clause-others : goal.returns-clause-others
returns-clause-others g c =
    others_beside _ _ _ c.self.view_is c.args.channel_id c.remove.new.self.entries
    (λ other ne. c.remove.ensures.updates.2 other (at_other other c.args.channel_id (λ same. ne (sym same))))
