-- the calls of cycle `lay`: what they ensure and what the loop keeps.
use Rattle.amqp_fields_write.proofs
use proofs.Names.{sym, ◌∙◌, arith, numbers}
use proofs.Combined.{group_inside, item_parts}
use proofs.ValuesMade.{each_passing, none_left, array_behind, deep_array, deep_table, next_parts, table_behind, value_parts, value_read_only, value_unknown}
use proofs.Quick.{closed_laid, laid_after, laid_as, laid_until, leads_begin, leads_end, leads_on, leads_refused, refused_laid}
use proofs.laying_values.+lay.Goals as goal

pub lay_each-loop-group-init : goal.lay_each-loop-group-init
lay_each-loop-group-init g t c = leads_begin _ _ _ _ _ _

pub lay_each-loop-group-preserved : goal.lay_each-loop-group-preserved
lay_each-loop-group-preserved g t c =
    leads_on c.loop-group.invariant
    (next_parts _ _ c.in-Some.ensures.found c.index_of-last.ensures)
    (laid_as (item_parts _ _ _ _ _ _)
    (laid_after (laid_until c.lay_key-behind.ensures) c.lay_value-place.ensures))

pub lay_each-returns-then-is_empty : goal.lay_each-returns-then-is_empty
lay_each-returns-then-is_empty g t c =
    leads_end c.loop-group.invariant (none_left _ _ _ (grind numbers))

pub lay_each-returns-else-is_empty : goal.lay_each-returns-else-is_empty
lay_each-returns-else-is_empty g t c =
    leads_refused c.loop-group.invariant _ (each_passing _ _ _ (c.first_group.ensures.none c.in_default.is) (grind numbers)) (omega arith)

pub lay_group-returns : goal.lay_group-returns
lay_group-returns g t c =
    laid_as (group_inside _ _ _ _ _ _ (grind numbers))
    (closed_laid _ c.lay_each-place.ensures c.plus-start.ensures c.lay_length.ensures)

pub lay_after_tag-returns-in-FieldArray-2 : goal.lay_after_tag-returns-in-FieldArray-2
lay_after_tag-returns-in-FieldArray-2 g t c =
    laid_as (array_behind _ _ _ _ _ _ (omega arith) c.in-FieldArray-2.is)
    c.lay_group.ensures

pub lay_after_tag-returns-in-FieldTable-2 : goal.lay_after_tag-returns-in-FieldTable-2
lay_after_tag-returns-in-FieldTable-2 g t c =
    laid_as (table_behind _ _ _ _ _ _ (omega arith) c.in-FieldTable-2.is)
    c.lay_group-in-FieldTable-2.ensures

pub lay_value-returns-else-to_byte-node : goal.lay_value-returns-else-to_byte-node
lay_value-returns-else-to_byte-node g t c =
    laid_as
    (value_parts _ _ _ _ _ c.in-Some.tag (sym c.from_byte.ensures ∙ c.in-Some.is) (sym c.to_byte.ensures ∙ c.if-to_byte-node.false))
    (laid_after (laid_until c.lay-place.ensures) c.lay_after_tag.ensures)

pub lay_after_tag-returns-in-FieldArray : goal.lay_after_tag-returns-in-FieldArray
lay_after_tag-returns-in-FieldArray g t c =
    refused_laid _ (deep_array _ _ _ _ _ _ c.if-depth_left-eq0.true c.in-FieldArray.is) (omega arith)

pub lay_after_tag-returns-in-FieldTable : goal.lay_after_tag-returns-in-FieldTable
lay_after_tag-returns-in-FieldTable g t c =
    refused_laid _ (deep_table _ _ _ _ _ _ c.if-depth_left-eq0-2.true c.in-FieldTable.is) (omega arith)

pub lay_value-returns-in-None : goal.lay_value-returns-in-None
lay_value-returns-in-None g t c =
    refused_laid _ (value_unknown _ _ _ _ _ (sym c.from_byte.ensures ∙ c.in-None.is))
    (omega arith)

pub lay_value-returns-then-to_byte-node : goal.lay_value-returns-then-to_byte-node
lay_value-returns-then-to_byte-node g t c =
    refused_laid _ (value_read_only _ _ _ _ _ c.in-Some.tag (sym c.from_byte.ensures ∙ c.in-Some.is) (λ same.
    c.if-to_byte-node.true (c.to_byte.ensures ∙ same))) (omega arith)
