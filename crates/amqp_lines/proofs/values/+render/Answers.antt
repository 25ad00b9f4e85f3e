-- the calls of cycle `render`: what they ensure and what loops keep.
use Rattle.amqp_lines.proofs
use proofs.Names.{sym, ◌∙◌, arith, take_rest, strict, SpellsEntry, SpellsValue, value_some, value_text, entry_text, numbers}
use Rattle.amqp_laws.proofs.Filled.{entry_some}
use proofs.Rendered.{value_none, value_unknown, value_rendered, array_written, array_unwritten, table_written, table_unwritten, entry_written, begins, goes_on}
use proofs.Rendered.{done}
use proofs.values.+render.Goals as goal

pub write_value-returns-in-empty-clause-written : goal.write_value-returns-in-empty-clause-written
write_value-returns-in-empty-clause-written t c = value_none _ _ _ _ _ c.in-empty.len_below

pub write_value-returns-in-None-clause-written : goal.write_value-returns-in-None-clause-written
write_value-returns-in-None-clause-written t c = value_unknown _ _ _ _ _ (sym c.from_byte.ensures ∙ c.in-None.is)

pub write_value-returns-in_ok-used-in-Some-clause-written : goal.write_value-returns-in_ok-used-in-Some-clause-written
write_value-returns-in_ok-used-in-Some-clause-written t c =
    let written = rw take_rest at c.in_ok-used-in-Some.ensures.written in
    value_rendered _ _ _ _ _ _ _
    (sym c.from_byte.ensures ∙ c.in-Some.is) c.in_ok-write_tag-in-Some.ensures written

pub write_array-returns-in-Err-clause-written : goal.write_array-returns-in-Err-clause-written
write_array-returns-in-Err-clause-written t c = array_unwritten _ _ _ _ _ (grind arith)

pub write_array-returns-in_ok-push-in-Ok-2-clause-written : goal.write_array-returns-in_ok-push-in-Ok-2-clause-written
write_array-returns-in_ok-push-in-Ok-2-clause-written t c =
    array_written _ _ _ _ _ _ _ _ c.in-Ok.ensures.judged
    c.in_ok-push-in-Ok.ensures.items c.in_ok-write_values-in-Ok.ensures c.in_ok-push-in-Ok-2.ensures.items

pub write_table-returns-in-Err-clause-written : goal.write_table-returns-in-Err-clause-written
write_table-returns-in-Err-clause-written t c = table_unwritten _ _ _ _ _ (grind arith)

pub write_table-returns-in_ok-push-in-Ok-2-clause-written : goal.write_table-returns-in_ok-push-in-Ok-2-clause-written
write_table-returns-in_ok-push-in-Ok-2-clause-written t c =
    table_written _ _ _ _ _ _ _ _ c.in-Ok.ensures.judged
    c.in_ok-push-in-Ok.ensures.items c.in_ok-write_entries-in-Ok.ensures c.in_ok-push-in-Ok-2.ensures.items

pub write_values-loop-rest-init : goal.write_values-loop-rest-init
write_values-loop-rest-init t c = begins

pub write_values-loop-rest-preserved : goal.write_values-loop-rest-preserved
write_values-loop-rest-preserved t c =
    goes_on (SpellsValue strict _) value_text (value_some strict _) _ _ _ _ c.loop-rest.invariant
    (grind numbers) c.in_ok-used.ensures.written c.bytes_from-rest.ensures c.in_ok-write_comma.ensures

pub write_values-returns : goal.write_values-returns
write_values-returns t c =
    done (SpellsValue strict _) value_text (value_some strict _) tt c.loop-rest.invariant (grind numbers)

pub write_entries-loop-rest-init : goal.write_entries-loop-rest-init
write_entries-loop-rest-init t c = begins

pub write_entries-loop-rest-preserved : goal.write_entries-loop-rest-preserved
write_entries-loop-rest-preserved t c =
    let S = SpellsValue strict _ in
    goes_on (SpellsEntry S) entry_text (entry_some S) _ _ _ _ c.loop-rest.invariant
    (grind numbers) c.in_ok-used.ensures.written c.bytes_from-rest.ensures c.in_ok-write_comma.ensures

pub write_entries-returns : goal.write_entries-returns
write_entries-returns t c =
    let S = SpellsValue strict _ in
    done (SpellsEntry S) entry_text (entry_some S) tt c.loop-rest.invariant (grind numbers)

pub write_entry-returns-clause-written : goal.write_entry-returns-clause-written
write_entry-returns-clause-written t c =
    entry_written _ _ _ _ _ _ _ _ _
    c.split_key.ensures.key c.split_key.ensures.rest c.in_ok-write_quoted.ensures c.in_ok-push.ensures.items c.in_ok-used.ensures.written
