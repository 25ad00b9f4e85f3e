-- `Channels::get_mut`: what it ensures and the invariant of its type.
use Rattle.std.proofs.Common.{ℕ, refl, sym, ap, subst, ◌∙◌}
use Rattle.std.specs.BTreeMap.{BTreeMap}
use Rattle.amqp_turns.specs.LastEntry.{with_last, IsApart}
use Rattle.amqp_turns.proofs.LastEntry.{apart_set, kept_beside, kept_of, set_last, set_others}
use Rattle.amqp_turns.proofs.channels.Channels.get_mut.Goals as goal

pub returns-then-is_of : goal.returns-then-is_of
returns-then-is_of g c =
    let of = sym c.is_of.ensures ∙ c.if-is_of.true in (
      (refl, λ w. set_last _ _ _ c.self.view_is c.args.channel_id w of, c.self.view_is),
      record {
        writes_back = tt;
        value = c.value_mut.ensures.value ∙ kept_of _ _ _ c.self.view_is c.args.channel_id of;
      },
    )

pub invariant_of-self-lent-2 : goal.invariant_of-self-lent-2
invariant_of-self-lent-2 g c = λ lent. (
  λ w. apart_set c.self.inside.last c.self.inside.others.entries _ c.args.channel_id w c.self.invariant (c.get_mut.follows.holds w).0,
  subst (λ (m : BTreeMap ℕ g.row.T.Denot). IsApart c.self.inside.last m.entries) (sym c.get_mut.follows.holds-at-none) c.self.invariant,
)

pub returns : goal.returns
returns g c =
    let other = sym c.is_of.ensures ∙ c.if-is_of.false in (
      (
        refl,
        λ w.
            set_others _ _ _ c.self.view_is c.args.channel_id w other _ (c.get_mut.follows.holds w).0,
        ap (λ (m : BTreeMap ℕ g.row.T.Denot). with_last c.self.inside.last m.entries) c.get_mut.follows.holds-at-none ∙ c.self.view_is,
      ),
      record {
        writes_back = tt;
        value = c.get_mut.ensures.value ∙ kept_beside _ _ _ c.self.view_is c.args.channel_id other;
      },
    )
