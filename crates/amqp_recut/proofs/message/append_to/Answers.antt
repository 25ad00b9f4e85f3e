-- `append_to`: clauses `ok` and `err`, and what calls require.
use Rattle.std.proofs.lemmas.Grind.{common_steps}
use Rattle.std.proofs.Common.{sym, ap, ◌∙◌, arith}
use Rattle.std.specs.FinMap as finite
use Rattle.amqp_recut.specs.Held.{set_at}
use Rattle.std.proofs.lemmas.Result.{on_ok_weaker, on_err_weaker}
use Rattle.amqp_turns.proofs.Holding.{set_at-same}
use Rattle.amqp_recut.proofs.message.append_to.Goals as goal

pub unreachable-requires : goal.unreachable-requires
unreachable-requires c = grind (arith, common_steps)

pub returns-clause-ok : goal.returns-clause-ok
returns-clause-ok c =
    let is = c.get_mut.follows.holds c.append.new.self c.requires.there in
    let some = c.in-Some.ensures.value in
    on_ok_weaker c.append.result (λ e. grind (arith, common_steps)) c.append.ensures.ok

pub returns-clause-err : goal.returns-clause-err
returns-clause-err c =
    let is = c.get_mut.follows.holds c.append.new.self c.requires.there in
    let some = c.in-Some.ensures.value in
    let same = set_at-same c.args.messages.now c.args.channel_id in
    on_err_weaker c.append.result (λ e.
    is ∙ ap (finite.insert c.args.messages.now c.args.channel_id) e ∙ ap (set_at c.args.messages.now c.args.channel_id) some ∙ sym same) c.append.ensures.err
