-- A step by numbers.
use Rattle.std.proofs.Common.{Ok, ap, ◌∙◌}
use Rattle.amqp_wire.specs.HeaderScan.{type_of}
use Rattle.amqp_c.proofs.StateNumbers.{last_made, steps_made}
use Rattle.amqp_c.proofs.turns.feksroum_step.Goals as goal

pub returns-then-up_to-size : goal.returns-then-up_to-size
returns-then-up_to-size c =
    let mark_is = c.in-Ok-Body.is ∙ ap Ok c.in-Ok-Body.field-0-is in
    steps_made c.args.max_body c.args.channel (type_of c.args.frame_type) c.args.class_id c.args.method_id c.args.size c.mark_by.result _ c.mark_by.ensures
    (last_made c.args.channel c.args.size c.in-Ok-Body.before c.in-Ok-Body.up_to c.in-Ok-Body.size
    c.mark_by.result c.part_step-then-up_to-size.result c.kept_plain-then-up_to-size.result
    mark_is c.if-up_to-size.true c.part_step-then-up_to-size.ensures c.kept_plain-then-up_to-size.ensures)
