-- `Recutter::decide_judged`: what it ensures, and what calls require.
use Rattle.std.proofs.Common.{true, refl}
use Rattle.amqp_wire.specs.Frames.{raw_of}
use Rattle.amqp_turns.specs.declared.mark.Mark.TheVariants as marks
use Rattle.amqp_stream.specs.declared.decision.Decision.TheVariants as decisions
use Rattle.amqp_stream.specs.declared.errors.RunError.TheVariants as ends
use Rattle.amqp_in_turn.specs.declared.errors.Refusal.TheVariants as refusals
use Rattle.amqp_recut.proofs.Stepping.{typed_passed, typed_part, typed_refused}
use Rattle.amqp_recut.specs.Stepping.{recutting}
use Rattle.amqp_in_turn.proofs.Judging.{judged_takes, turn_refuses}
use Rattle.amqp_recut.proofs.recutter.Recutter.decide_judged.Goals as goal

pub returns-in-Fault : goal.returns-in-Fault
returns-in-Fault c =
    let bad = c.in-Fault.fault in
    turn_refuses recutting refl refl c.args.self.now (raw_of c.args.raw) bad (ends.Refused (refusals.BadContent bad))
    (typed_refused _ (raw_of c.args.raw) _ c.outline_raw-outline.ensures.frame bad (cc))
    (c.requires.judged.frame, c.requires.judged.is, refl)

pub returns-in-Passed : goal.returns-in-Passed
returns-in-Passed c =
    judged_takes recutting refl refl c.args.self.now _ _ true (raw_of c.args.raw) (decisions.Kept c.args.judged) refl
    (typed_passed _ (raw_of c.args.raw) _ c.outline_raw-outline.ensures.frame (cc)) (refl, c.requires.judged)

pub decide_part-requires-clause-steps : goal.decide_part-requires-clause-steps
decide_part-requires-clause-steps c =
    typed_part _ (raw_of c.args.raw) _ c.outline_raw-outline.ensures.frame marks.Opening c.requires.typed tt (cc) (cc)

pub decide_part-requires-in-Header-clause-steps : goal.decide_part-requires-in-Header-clause-steps
decide_part-requires-in-Header-clause-steps c =
    typed_part _ (raw_of c.args.raw) _ c.outline_raw-outline.ensures.frame marks.Header c.requires.typed tt (cc) (cc)

pub decide_part-requires-in-Body-clause-steps : goal.decide_part-requires-in-Body-clause-steps
decide_part-requires-in-Body-clause-steps c =
    typed_part _ (raw_of c.args.raw) _ c.outline_raw-outline.ensures.frame
    (marks.Body c.in-Body.before c.in-Body.after c.in-Body.size) c.requires.typed tt (cc) (cc)
