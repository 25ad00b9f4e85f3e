-- `Channels::remove`: what it ensures.
use Rattle.std.proofs.Common.{◌∙◌, sym, ap, Option}
use Rattle.amqp_turns.specs.declared.channels.Entry.{Entry}
use Rattle.amqp_turns.specs.Stands.{kept_at}
use Rattle.amqp_turns.specs.LastEntry.{with_last}
use Rattle.amqp_turns.proofs.Entries.{at_other}
use Rattle.amqp_turns.proofs.LastEntry.{kept_of, others_of, kept_beside, kept_with, others_beside}
use Rattle.amqp_turns.proofs.channels.Channels.remove.Goals as goal

pub returns-then-is_of-clause-value : goal.returns-then-is_of-clause-value
returns-then-is_of-clause-value g c =
    c.take_value.ensures.value
    ∙ kept_of _ _ _ c.self.view_is c.args.channel_id (sym c.is_of.ensures ∙ c.if-is_of.true)

pub returns-then-is_of-clause-others : goal.returns-then-is_of-clause-others
returns-then-is_of-clause-others g c = λ other ne.
    ap (λ (o : Option (Entry g.row.T.Denot)). kept_at (with_last o c.self.inside.others.entries) other) c.take_value.ensures.gone
    ∙ others_of _ _ _ c.self.view_is c.args.channel_id
    (sym c.is_of.ensures ∙ c.if-is_of.true) other ne

pub returns-clause-value : goal.returns-clause-value
returns-clause-value g c =
    c.remove.ensures.value
    ∙ kept_beside _ _ _ c.self.view_is c.args.channel_id (sym c.is_of.ensures ∙ c.if-is_of.false)

pub returns-clause-kept : goal.returns-clause-kept
returns-clause-kept g c =
    kept_with _ _ _ c.self.view_is c.args.channel_id
    (sym c.is_of.ensures ∙ c.if-is_of.false) c.remove.new.self.entries _ c.remove.ensures.updates.1

pub returns-clause-others : goal.returns-clause-others
returns-clause-others g c =
    others_beside _ _ _ c.self.view_is c.args.channel_id c.remove.new.self.entries
    (λ other ne. c.remove.ensures.updates.2 other (at_other other c.args.channel_id (λ same. ne (sym same))))
