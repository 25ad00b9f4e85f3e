-- `Channels::insert`: clauses `kept` and `others`.
use Rattle.std.proofs.Common.{sym, ◌∙◌}
use Rattle.amqp_turns.proofs.Entries.{kept-insert_same, kept-insert_other}
use Rattle.amqp_turns.proofs.LastEntry.{others_of_taken}
use Rattle.amqp_turns.proofs.channels.Channels.insert.Goals as goal

pub returns-then-takes-clause-kept : goal.returns-then-takes-clause-kept
returns-then-takes-clause-kept g c = kept-insert_same c.self.inside.others.entries c.args.channel_id c.args.value

pub returns-then-takes-clause-others : goal.returns-then-takes-clause-others
returns-then-takes-clause-others g c = λ other ne.
    kept-insert_other c.self.inside.others.entries c.args.channel_id c.args.value other ne
    ∙ others_of_taken _ _ _ c.self.view_is c.args.channel_id
    (sym c.takes.ensures ∙ c.if-takes.true) other ne
