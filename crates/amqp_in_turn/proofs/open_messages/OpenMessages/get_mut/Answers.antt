-- `OpenMessages::get_mut`: what it ensures, and that there is a message after a write exactly where there was one before.
use Rattle.std.proofs.Common.{refl}
use Rattle.std.proofs.lemmas.Map.{length-set_value}
use Rattle.amqp_turns.proofs.Holding.{get-holding}
use Rattle.amqp_in_turn.proofs.Lent.{holding_written}
use Rattle.amqp_in_turn.proofs.open_messages.OpenMessages.get_mut.Goals as goal

pub returns : goal.returns
returns g c =
    let es = c.self.inside.channels in (
      (
        refl,
        λ w. holding_written es _ c.args.self.now c.args.channel_id w c.self.view_is (c.get_mut.follows.holds w),
        rw c.get_mut.follows.holds-at-none c.self.view_is,
      ),
      record {
        writes_back = tt;
        value = rw (← c.self.view_is, get-holding) c.get_mut.ensures.value;
      },
    )

pub invariant_of-self-lent : goal.invariant_of-self-lent
invariant_of-self-lent g c = λ _.
    let es = c.self.inside.channels in (
      (λ w. rw (c.get_mut.follows.holds w, length-set_value) c.self.invariant),
      rw c.get_mut.follows.holds-at-none c.self.invariant,
    )
