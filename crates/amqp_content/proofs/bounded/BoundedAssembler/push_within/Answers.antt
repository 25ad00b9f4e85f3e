-- `BoundedAssembler::push_within`: what is held after the frame.
use Rattle.std.proofs.Common.{◌≡◌, ◌≤◌, ◌+◌, refl, subst, arith, inl, inr, ◌⊎◌}
use Rattle.std.proofs.lemmas.Bool.Decides.{nat_tests}
use Rattle.amqp_frame.specs.Frames.{frame_of}
use Rattle.amqp_turns.specs.Stands.{kept_at}
use Rattle.amqp_content.specs.Outcomes.{outcome_of}
use Rattle.amqp_content.specs.Bounds.{adds, body_bytes, open_bytes}
use Rattle.amqp_content.proofs.Counting.{recounts}
use Rattle.amqp_content.proofs.bounded.BoundedAssembler.push_within.Goals as goal
use Rattle.amqp_content.proofs.bounded.BoundedAssembler.push_within.Goals.{else-more-gt0-via-then-more-gt0+else-more-saturating_sub}
use Rattle.amqp_content.proofs.bounded.BoundedAssembler.push_within.Goals.{else-more-gt0-via-else-more-gt0}

pub overflow_sub-self : goal.overflow_sub-self
overflow_sub-self c =
    let within : (c.self.inside.held + adds c.self.inside.assembler (frame_of c.args.frame) ≤ c.args.bound)
    ⊎ (adds c.self.inside.assembler (frame_of c.args.frame) ≡ 0) =
    elim c.else-more-gt0.branch [
      | else-more-gt0-via-then-more-gt0+else-more-saturating_sub w ↦
          inl (grind (arith, nat_tests, w.if-more-gt0, w.if-more-saturating_sub, w.saturating_sub.ensures, c.adds-more.ensures))
      | else-more-gt0-via-else-more-gt0 w ↦ inr (grind (arith, nat_tests, w.if-more-gt0, c.adds-more.ensures))
    ] in
    (recounts c.args.bound c.self.inside.held c.held_of-before.result (body_bytes (kept_at c.push.new.self.channels c.channel_id-channel_id.result))
    c.channel_id-channel_id.result c.self.inside.assembler c.push.new.self (frame_of c.args.frame) (outcome_of c.in_ok-outcome.outcome)
    (omega (arith, c.channel_id-channel_id.type_inv)) c.channel_id-channel_id.ensures c.self.inside.counted
    c.held_of-before.ensures refl c.in_ok-outcome.ensures.others c.in_ok-outcome.ensures.takes within).part

pub overflow_add-self : goal.overflow_add-self
overflow_add-self c =
    let within : (c.self.inside.held + adds c.self.inside.assembler (frame_of c.args.frame) ≤ c.args.bound)
    ⊎ (adds c.self.inside.assembler (frame_of c.args.frame) ≡ 0) =
    elim c.else-more-gt0.branch [
      | else-more-gt0-via-then-more-gt0+else-more-saturating_sub w ↦
          inl (grind (arith, nat_tests, w.if-more-gt0, w.if-more-saturating_sub, w.saturating_sub.ensures, c.adds-more.ensures))
      | else-more-gt0-via-else-more-gt0 w ↦ inr (grind (arith, nat_tests, w.if-more-gt0, c.adds-more.ensures))
    ] in
    let h =
    recounts c.args.bound c.self.inside.held c.held_of-before.result c.held_of.result c.channel_id-channel_id.result c.self.inside.assembler c.push.new.self
    (frame_of c.args.frame) (outcome_of c.in_ok-outcome.outcome) (omega (arith, c.channel_id-channel_id.type_inv)) c.channel_id-channel_id.ensures
    c.self.inside.counted c.held_of-before.ensures c.held_of.ensures c.in_ok-outcome.ensures.others c.in_ok-outcome.ensures.takes within in
    elim h.most [ inl few ↦ omega (arith, few, c.ranges.bound.fits) | inr few ↦ omega (arith, few, c.self.inside.fits) ]

pub invariant_of-self-inside-2 : goal.invariant_of-self-inside-2
invariant_of-self-inside-2 c =
    let within : (c.self.inside.held + adds c.self.inside.assembler (frame_of c.args.frame) ≤ c.args.bound)
    ⊎ (adds c.self.inside.assembler (frame_of c.args.frame) ≡ 0) =
    elim c.else-more-gt0.branch [
      | else-more-gt0-via-then-more-gt0+else-more-saturating_sub w ↦
          inl (grind (arith, nat_tests, w.if-more-gt0, w.if-more-saturating_sub, w.saturating_sub.ensures, c.adds-more.ensures))
      | else-more-gt0-via-else-more-gt0 w ↦ inr (grind (arith, nat_tests, w.if-more-gt0, c.adds-more.ensures))
    ] in
    let h =
    recounts c.args.bound c.self.inside.held c.held_of-before.result c.held_of.result c.channel_id-channel_id.result c.self.inside.assembler c.push.new.self
    (frame_of c.args.frame) (outcome_of c.in_ok-outcome.outcome) (omega (arith, c.channel_id-channel_id.type_inv)) c.channel_id-channel_id.ensures
    c.self.inside.counted c.held_of-before.ensures c.held_of.ensures c.in_ok-outcome.ensures.others c.in_ok-outcome.ensures.takes within in
    (h.now, (elim h.most [ inl few ↦ omega (arith, few, c.ranges.bound.fits) | inr few ↦ omega (arith, few, c.self.inside.fits) ], tt))

pub returns-clause-bounded : goal.returns-clause-bounded
returns-clause-bounded c =
    let within : (c.self.inside.held + adds c.self.inside.assembler (frame_of c.args.frame) ≤ c.args.bound)
    ⊎ (adds c.self.inside.assembler (frame_of c.args.frame) ≡ 0) =
    elim c.else-more-gt0.branch [
      | else-more-gt0-via-then-more-gt0+else-more-saturating_sub w ↦
          inl (grind (arith, nat_tests, w.if-more-gt0, w.if-more-saturating_sub, w.saturating_sub.ensures, c.adds-more.ensures))
      | else-more-gt0-via-else-more-gt0 w ↦ inr (grind (arith, nat_tests, w.if-more-gt0, c.adds-more.ensures))
    ] in
    subst (λ a. (open_bytes c.push.new.self ≤ c.args.bound) ⊎ (open_bytes c.push.new.self ≤ open_bytes a)) c.self.view_is (recounts c.args.bound
    c.self.inside.held c.held_of-before.result c.held_of.result c.channel_id-channel_id.result c.self.inside.assembler c.push.new.self
    (frame_of c.args.frame) (outcome_of c.in_ok-outcome.outcome) (omega (arith, c.channel_id-channel_id.type_inv)) c.channel_id-channel_id.ensures
    c.self.inside.counted c.held_of-before.ensures c.held_of.ensures c.in_ok-outcome.ensures.others c.in_ok-outcome.ensures.takes within).bounded
