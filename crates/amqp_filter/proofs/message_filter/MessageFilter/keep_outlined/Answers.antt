-- `MessageFilter::keep_outlined`: what it ensures.
use Rattle.std.proofs.Common.{refl, sym, ap, ◌∙◌}
use Rattle.amqp_wire.specs.Frames.{raw_of}
use Rattle.amqp_wire.specs.Verdicts.{decode_raw}
use Rattle.amqp_stream.specs.declared.errors.RunError.TheVariants as ends
use Rattle.amqp_in_turn.specs.declared.errors.Refusal.TheVariants as refusals
use Rattle.amqp_turns.specs.Steps.{mark_after}
use Rattle.amqp_turns.specs.InTurn.{greatest}
use Rattle.amqp_filter.specs.Held.{progress_in}
use Rattle.amqp_filter.specs.Stepping.{filtering}
use Rattle.amqp_filter.proofs.Stepping.{given_by, refused_steps, passed_steps}
use Rattle.amqp_in_turn.proofs.Judging.{turn_refuses}
use Rattle.amqp_filter.proofs.message_filter.MessageFilter.keep_outlined.Goals as goal

pub returns-in-Fault : goal.returns-in-Fault
returns-in-Fault c =
    let mark =
    sym c.in-Fault.is ∙ c.step-stepped.ensures.mark
    ∙ ap (λ p. mark_after greatest p c.args.outline) (c.progress_of.ensures ∙ ap progress_in (c.copied-held.ensures ∙ c.get.ensures)) in
    let is = given_by (decode_raw (raw_of c.args.raw)) c.requires.is_whole in
    turn_refuses filtering refl refl c.args.self.now (raw_of c.args.raw) c.in-Fault.fault (ends.Refused (refusals.BadContent c.in-Fault.fault))
    (refused_steps c.args.self.now (raw_of c.args.raw) c.args.outline c.in-Fault.fault c.requires.whole mark) (is.0, is.1, refl)

pub returns-in-Passed : goal.returns-in-Passed
returns-in-Passed c =
    let mark =
    sym c.in-Passed.is ∙ c.step-stepped.ensures.mark
    ∙ ap (λ p. mark_after greatest p c.args.outline) (c.progress_of.ensures ∙ ap progress_in (c.copied-held.ensures ∙ c.get.ensures)) in
    passed_steps c.args.self.now (raw_of c.args.raw) c.args.outline c.decide-kept.result c.requires.whole mark c.decide-kept.ensures
