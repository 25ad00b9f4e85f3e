-- the calls of cycle `measure`: what they ensure and what the loop keeps.
use Rattle.amqp_fields_write.proofs
use proofs.Names.{◌∙◌, numbers}
use proofs.Combined.{begins, ends, passed, steps, stops, stops_at}
use proofs.ValuesMade.{each_passing, none_left, misfits, next_parts}
use proofs.measuring_values.+measure.Goals as goal

pub measure_each-loop-group-init : goal.measure_each-loop-group-init
measure_each-loop-group-init t c = begins _

pub measure_each-returns-in_err-n : goal.measure_each-returns-in_err-n
measure_each-returns-in_err-n t c =
    passed _ _
    (stops_at _ _ c.loop-group.invariant
    (next_parts _ _ c.in-Some.ensures.found c.index_of-last.ensures) c.in_err-n.ensures)
    c.from_residual.ensures.1

pub measure_each-loop-group-preserved : goal.measure_each-loop-group-preserved
measure_each-loop-group-preserved t c =
    steps c.loop-group.invariant
    (next_parts _ _ c.in-Some.ensures.found c.index_of-last.ensures)
    c.in_ok-n.ensures c.plus-count.ensures

pub measure_each-returns-then-is_empty : goal.measure_each-returns-then-is_empty
measure_each-returns-then-is_empty t c =
    ends c.loop-group.invariant (none_left _ _ _ (grind numbers))

pub measure_each-returns-else-is_empty : goal.measure_each-returns-else-is_empty
measure_each-returns-else-is_empty t c =
    stops _ c.loop-group.invariant
    (each_passing _ _ _ (c.first_group.ensures.none c.in_default.is) (grind numbers)
    ∙ misfits c.index_of.ensures c.bad.ensures)
