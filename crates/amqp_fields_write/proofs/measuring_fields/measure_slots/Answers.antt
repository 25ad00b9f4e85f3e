-- `measure_slots`: what it ensures, what calls require and what the loop keeps.
use Rattle.amqp_fields_write.proofs
use proofs.Names.{refl, ◌∙◌, numbers, constant_at}
use proofs.Names.forms
use proofs.Names.slots
use proofs.Combined.{begins, ends, passed, steps, stops, stops_at}
use proofs.ValuesMade.{misfits}
use proofs.PropertiesMade.{no_slots, none_made, slots_next, some_refused}
use proofs.measuring_fields.measure_slots.Goals as goal

pub loop-shape-init : goal.loop-shape-init
loop-shape-init c = begins _

pub measure_slot-requires : goal.measure_slot-requires
measure_slot-requires c = record {
  constant = constant_at c.args.shapes.now c.loop-shape.shape-index (slots.Kept forms.Octet) c.requires.constants c.loop-shape-test.true;
}

pub returns-in_err-n : goal.returns-in_err-n
returns-in_err-n c =
    passed _ _
    (stops_at _ _ c.loop-shape.invariant
    (slots_next _ _ _ _ _ _ (slots.Kept forms.Octet) c.loop-shape-test.true refl refl)
    c.in_err-n.ensures)
    c.from_residual.ensures.1

pub loop-shape-preserved : goal.loop-shape-preserved
loop-shape-preserved c =
    steps c.loop-shape.invariant
    (slots_next _ _ _ _ _ _ (slots.Kept forms.Octet) c.loop-shape-test.true (cc) (cc))
    c.in_ok-n.ensures c.plus-count.ensures

pub returns-then-is_empty : goal.returns-then-is_empty
returns-then-is_empty c =
    ends c.loop-shape.invariant
    (no_slots _ _ _ _ _ _ c.loop-shape-test.false ∙ none_made _ _ (grind numbers))

pub returns-else-is_empty : goal.returns-else-is_empty
returns-else-is_empty c =
    stops _ c.loop-shape.invariant
    (no_slots _ _ _ _ _ _ c.loop-shape-test.false ∙ some_refused _ _ (grind numbers) ∙ misfits c.index_of.ensures c.bad.ensures)
