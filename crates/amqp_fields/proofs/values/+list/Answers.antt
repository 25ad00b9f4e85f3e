-- the calls of cycle `list`: what they ensure and what loops keep.
use Rattle.std.proofs.Common.{◌+◌, get_or, refl, arith}
use Rattle.amqp_fields.proofs.Names.{take_rest, nat_tests}
use Rattle.amqp_fields.proofs.Stepping.{entry_goes, entry_stops, goes_on, items_listed, stops, value_listed, value_stops}
use Rattle.amqp_fields.proofs.values.+list.Goals as goal

pub list_array-returns-in-Ok-clause-listed : goal.list_array-returns-in-Ok-clause-listed
list_array-returns-in-Ok-clause-listed t c =
    items_listed _ _ _ _ _ _ _ _ _ _ _ c.list_values-filled.result _ _ _ _ c.in-Ok.ensures.judged (take_rest c.args.i.now c.in-Ok.used) c.before-inner.ensures
    c.covered-node.ensures c.push-begun.ensures c.list_values-filled.ensures.listed c.close.ensures

pub list_table-returns-in-Ok-clause-listed : goal.list_table-returns-in-Ok-clause-listed
list_table-returns-in-Ok-clause-listed t c =
    items_listed _ _ _ _ _ _ _ _ _ _ _ c.list_entries-filled.result _ _ _ _ c.in-Ok.ensures.judged (take_rest c.args.i.now c.in-Ok.used) c.before-inner.ensures
    c.covered-node.ensures c.push-begun.ensures c.list_entries-filled.ensures.listed c.close.ensures

pub list_values-loop-rest-preserved : goal.list_values-loop-rest-preserved
list_values-loop-rest-preserved t c =
    let found = c.in-Some.found in
    let step = c.list_after_tag-step in
    let mark = rw c.default.ensures at c.in-Some.ensures.label in
    goes_on 1 _ _ _ step.result c.loop-rest.invariant.0 (omega arith) c.in-Some.ensures.some
    (value_listed _ _ _ _ _ _ _ _ _ step.result c.in-Some.ensures.some c.in-Some.ensures.tag mark (rw c.in-Some.ensures.behind at step.ensures.listed))
    c.in-Some.ensures.behind (take_rest found.behind.now step.result.used) c.loop-rest.invariant.1

pub list_values-returns-in-None-clause-listed : goal.list_values-returns-in-None-clause-listed
list_values-returns-in-None-clause-listed t c =
    stops c.loop-rest.invariant.0 (grind (arith, nat_tests)) (value_stops _ _ _ _ (c.in-None.ensures.none refl))

pub list_entries-loop-rest-preserved : goal.list_entries-loop-rest-preserved
list_entries-loop-rest-preserved t c =
    let found = c.in-Some.found in
    let step = c.list_after_tag-step in
    goes_on (2 + get_or c.loop-rest.rest.now 0 0) _ _ _ step.result c.loop-rest.invariant.0 (omega arith) c.in-Some.ensures.size
    (entry_goes _ _ _ _ _ _ _ _ _ step.result c.in-Some.ensures.size (omega arith) c.in-Some.ensures.tag
    c.in-Some.ensures.label c.in-Some.ensures.behind step.ensures.listed)
    c.in-Some.ensures.behind (take_rest found.behind.now step.result.used) c.loop-rest.invariant.1

pub list_entries-returns-in-None-clause-listed : goal.list_entries-returns-in-None-clause-listed
list_entries-returns-in-None-clause-listed t c =
    stops c.loop-rest.invariant.0 (grind (arith, nat_tests)) (entry_stops _ _ _ (c.in-None.ensures.none refl))
