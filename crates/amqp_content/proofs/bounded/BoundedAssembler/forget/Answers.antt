-- `BoundedAssembler::forget`: what is held without the channel.
use Rattle.std.proofs.Common.{◌≡◌, ◌+◌, ap, sym, subst, arith}
use Rattle.amqp_turns.specs.Outcomes.{Assembling}
use Rattle.amqp_turns.specs.Stands.{kept_at}
use Rattle.amqp_content.specs.Bounds.{body_bytes, open_bytes}
use Rattle.amqp_content.proofs.Counting.{moves_in}
use Rattle.amqp_content.proofs.bounded.BoundedAssembler.forget.Goals as goal

pub overflow_sub-self : goal.overflow_sub-self
overflow_sub-self c =
    (moves_in c.self.inside.held c.held_of-before.result 0 c.args.channel_id c.self.inside.assembler c.forget.new.self (omega (arith, c.ranges.channel_id.fits))
    c.self.inside.counted c.held_of-before.ensures (sym (ap body_bytes c.forget.ensures.none)) c.forget.ensures.others).part

pub invariant_of-self-inside : goal.invariant_of-self-inside
invariant_of-self-inside c =
    let h =
    moves_in c.self.inside.held c.held_of-before.result 0 c.args.channel_id c.self.inside.assembler c.forget.new.self (omega (arith, c.ranges.channel_id.fits))
    c.self.inside.counted c.held_of-before.ensures (sym (ap body_bytes c.forget.ensures.none)) c.forget.ensures.others in
    (omega (arith, h.now), (omega (arith, c.self.inside.fits), tt))

pub returns-clause-held : goal.returns-clause-held
returns-clause-held c =
    let h =
    moves_in c.self.inside.held c.held_of-before.result 0 c.args.channel_id c.self.inside.assembler c.forget.new.self (omega (arith, c.ranges.channel_id.fits))
    c.self.inside.counted c.held_of-before.ensures (sym (ap body_bytes c.forget.ensures.none)) c.forget.ensures.others in
    subst (λ (a : Assembling). open_bytes c.forget.new.self + body_bytes (kept_at a.channels c.args.channel_id) ≡ open_bytes a) c.self.view_is
    (omega (arith, h.part, h.now, c.self.inside.counted, c.held_of-before.ensures))
