-- `lay_slots`: what it ensures, what calls require and what the loop keeps.
use Rattle.amqp_fields_write.proofs
use proofs.Names.{refl, ◌∙◌, arith, numbers, constant_at}
use proofs.Names.forms
use proofs.Names.slots
use proofs.PropertiesMade.{no_slots, none_made, slots_next, some_refused}
use proofs.Quick.{leads_begin, leads_end, leads_on, leads_refused, leads_stop}
use proofs.laying_fields.lay_slots.Goals as goal

pub loop-shape-init : goal.loop-shape-init
loop-shape-init g c = leads_begin _ _ _ _ _ _

pub lay_slot-next-requires : goal.lay_slot-next-requires
lay_slot-next-requires g c = record {
  constant = constant_at c.args.shapes.now c.loop-shape.shape-index (slots.Kept forms.Octet) c.requires.constants c.loop-shape-test.true;
}

pub loop-shape-preserved : goal.loop-shape-preserved
loop-shape-preserved g c =
    leads_on c.loop-shape.invariant
    (slots_next _ _ _ _ _ _ (slots.Kept forms.Octet) c.loop-shape-test.true
    c.lay_slot-next.ensures.next (c.lay_slot-next.ensures.rest (grind numbers)))
    c.lay_slot-next.ensures.laid

pub returns-then-next : goal.returns-then-next
returns-then-next g c =
    leads_stop c.loop-shape.invariant _
    (slots_next _ _ _ _ _ _ (slots.Kept forms.Octet) c.loop-shape-test.true refl refl)
    c.lay_slot-next.ensures.laid (grind numbers) (omega arith)

pub returns-then-is_empty : goal.returns-then-is_empty
returns-then-is_empty g c =
    leads_end c.loop-shape.invariant
    (no_slots _ _ _ _ _ _ c.loop-shape-test.false ∙ none_made _ _ (grind numbers))

pub returns-else-is_empty : goal.returns-else-is_empty
returns-else-is_empty g c =
    leads_refused c.loop-shape.invariant _
    (no_slots _ _ _ _ _ _ c.loop-shape-test.false ∙ some_refused _ _ (grind numbers))
    (omega arith)
