-- `insert_beside`: what it ensures.
use Rattle.std.proofs.Common.{List, ℕ, refl, sym, ap, ◌∙◌, None}
use Rattle.std.specs.BTreeMap.{BTreeMap}
use Rattle.amqp_turns.specs.Stands.{kept_at}
use Rattle.amqp_turns.specs.LastEntry.{with_last}
use Rattle.amqp_turns.proofs.Errors.{on_err}
use Rattle.amqp_turns.proofs.Entries.{kept-insert_same, kept-insert_other, kept-set_same, kept-set_other}
use Rattle.amqp_turns.proofs.LastEntry.{kept_with, others_beside}
use Rattle.amqp_turns.proofs.channels.insert_beside.Goals as goal

pub returns-in-Some-clause-kept : goal.returns-in-Some-clause-kept
returns-in-Some-clause-kept g c =
    let es = c.args.others.now.entries in
    kept_with c.args.last.now es _ refl c.args.channel_id c.requires.other _ _
    (ap (λ (xs : List (ℕ × g.row.T.Denot)). kept_at xs c.args.channel_id) (c.get_mut.follows.holds c.args.value).0
    ∙ kept-set_same es c.args.channel_id c.in-Some.kept.now c.args.value (sym c.in-Some.ensures.value))

pub returns-in-Some-clause-others : goal.returns-in-Some-clause-others
returns-in-Some-clause-others g c =
    let es = c.args.others.now.entries in
    others_beside c.args.last.now es _ refl c.args.channel_id _ (λ other ne.
    ap (λ (xs : List (ℕ × g.row.T.Denot)). kept_at xs other) (c.get_mut.follows.holds c.args.value).0
    ∙ kept-set_other es c.args.channel_id c.args.value other ne)

pub returns-in_err-put_back-in-None-clause-absent : goal.returns-in_err-put_back-in-None-clause-absent
returns-in_err-put_back-in-None-clause-absent g c =
    on_err c.from_residual.result
    (kept_with c.args.last.now c.args.others.now.entries _ refl c.args.channel_id c.requires.other c.args.others.now.entries None (sym c.in-None.ensures.value))

pub returns-in_ok-put_back-in-None-clause-kept : goal.returns-in_ok-put_back-in-None-clause-kept
returns-in_ok-put_back-in-None-clause-kept g c = kept-insert_same c.put_back.new.others.entries c.args.channel_id c.args.value

pub returns-in_ok-put_back-in-None-clause-others : goal.returns-in_ok-put_back-in-None-clause-others
returns-in_ok-put_back-in-None-clause-others g c = λ other ne.
    kept-insert_other c.put_back.new.others.entries c.args.channel_id c.args.value other ne
    ∙ ap (λ (es : List (ℕ × g.row.T.Denot)). kept_at es other) c.in_ok-put_back-in-None.ensures.others
    ∙ ap (λ (m : BTreeMap ℕ g.row.T.Denot). kept_at (with_last c.args.last.now m.entries) other) c.get_mut.follows.holds-at-none

pub returns-in_ok-put_back-in-None-clause-apart : goal.returns-in_ok-put_back-in-None-clause-apart
returns-in_ok-put_back-in-None-clause-apart g c = λ _.
    ap (λ (es : List (ℕ × g.row.T.Denot)). kept_at es c.args.channel_id) c.in_ok-put_back-in-None.ensures.others
    ∙ ap (λ (m : BTreeMap ℕ g.row.T.Denot). kept_at (with_last c.args.last.now m.entries) c.args.channel_id) c.get_mut.follows.holds-at-none
    ∙ kept_with c.args.last.now c.args.others.now.entries _ refl c.args.channel_id c.requires.other c.args.others.now.entries None (sym c.in-None.ensures.value)
