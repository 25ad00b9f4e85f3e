-- `read_properties`: clause `step`.
use Rattle.std.proofs.Common.{arith}
use Rattle.std.proofs.lemmas.Grind.{common_steps}
use Rattle.amqp_types.specs.Answers.{Refuses}
use Rattle.amqp_types.specs.Properties.{properties, later_properties}
use Rattle.amqp_types.specs.PropertyJudging.{judge_set}
use Rattle.amqp_laws.proofs.PropertySteps.{set_refuses}
use Rattle.amqp_properties.proofs.parsing.read_properties.Goals as goal

pub returns-in_err-later-clause-step : goal.returns-in_err-later-clause-step
unfolding properties
returns-in_err-later-clause-step c =
    let error = c.in_err-later.field-0.0 in
    let one = c.in_ok-content_type.ensures.step in
    let two = c.in_ok-content_encoding.ensures.step in
    let three = c.in_ok-headers.ensures.step in
    let four = c.in_ok-delivery_mode.ensures.step in
    let five = c.in_ok-priority.ensures.step in
    let six = c.in_ok-correlation_id.ensures.step in
    let seven = c.in_ok-reply_to.ensures.step in
    let later : Refuses error (judge_set c.args.mask later_properties c.read_short_string-4.new.slots.rest.now) = grind (arith, common_steps) in
    let all : Refuses error (judge_set c.args.mask properties c.args.slots.now.rest.now) =
    set_refuses error _ _ _ _ _ _ _ _ _ c.is_set.ensures one.0 one.1
    (set_refuses error _ _ _ _ _ _ _ _ _ c.is_set-2.ensures two.0 two.1
    (set_refuses error _ _ _ _ _ _ _ _ _ c.is_set-3.ensures three.0 three.1
    (set_refuses error _ _ _ _ _ _ _ _ _ c.is_set-4.ensures four.0 four.1
    (set_refuses error _ _ _ _ _ _ _ _ _ c.is_set-5.ensures five.0 five.1
    (set_refuses error _ _ _ _ _ _ _ _ _ c.is_set-6.ensures six.0 six.1
    (set_refuses error _ _ _ _ _ _ _ _ _ c.is_set-7.ensures seven.0 seven.1 later)))))) in
    grind (arith, common_steps)
