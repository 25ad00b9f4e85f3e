-- `OpenMessages::begin`: clauses `ok` and `absent`.
use Rattle.std.proofs.Common.{Some}
use Rattle.std.proofs.lemmas.Result.{on_ok_weaker, on_err_weaker}
use Rattle.amqp_turns.proofs.Holding.{get-holding, holding_updated}
use Rattle.amqp_in_turn.proofs.open_messages.OpenMessages.begin.Goals as goal

pub returns-clause-ok : goal.returns-clause-ok
returns-clause-ok g c = on_ok_weaker c.insert-begun.result (λ e.
    rw (← c.self.view_is)
    (holding_updated c.self.inside.channels c.insert-begun.new.self c.args.channel_id (Some c.args.message) e c.insert-begun.ensures.others))
    c.insert-begun.ensures.kept

pub returns-clause-absent : goal.returns-clause-absent
returns-clause-absent g c =
    on_err_weaker c.insert-begun.result (λ e. rw (← c.self.view_is, get-holding) e) c.insert-begun.ensures.absent
