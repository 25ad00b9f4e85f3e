-- `push_all`: what loops keep.
use Rattle.std.proofs.Common.{refl, sym, ◌∙◌, subst, map, List, [], ◌∷◌, ◌++◌}
use Rattle.amqp_frame.specs.Frames.{frame_of}
use Rattle.amqp_messages.specs.declared.outcome.Outcome.{Outcome}
use Rattle.amqp_content.specs.Outcomes.{outcome_of}
use Rattle.amqp_turns.specs.Sequences.{AreGiven}
use Rattle.amqp_turns.proofs.Apart.{none_stand}
use Rattle.amqp_content.proofs.Apart.{none_given, assembled_step}
use Rattle.amqp_content.proofs.Telling.{taken}
use Rattle.amqp_content.proofs.assembling.push_all.Goals as goal

pub loop-frame-init : goal.loop-frame-init
loop-frame-init c =
    let before = c.args.assembler.now in
    record {
      max = refl;
      stand = none_stand before.max_body before.channels c.requires;
      given = none_given before.max_body c.new-outcomes.result.items c.new-outcomes.ensures.items;
    }

pub loop-frame-preserved : goal.loop-frame-preserved
loop-frame-preserved c =
    let h = c.loop-frame.invariant in
    let e = c.in_ok-push.ensures in
    let max = c.args.assembler.now.max_body in
    let next =
    assembled_step max c.loop-frame.assembler c.push.new.self c.loop-frame.yielded
    c.loop-frame.outcomes.items c.in-Some.frame c.in_ok-push.field-0 h.max h.stand h.given e.outside
    (λ content. taken c.loop-frame.assembler c.push.new.self (frame_of c.in-Some.frame) (outcome_of c.in_ok-push.field-0) content e.takes) e.others in
    record {
      max = e.max_body ∙ h.max;
      stand = next.stand;
      given =
          subst (λ (os : List Outcome). AreGiven max [] (map frame_of (c.loop-frame.yielded ++ c.in-Some.frame ∷ [])) (map outcome_of os))
          (sym c.in_ok-push-2.ensures.items) next.given;
    }
