-- `read_slots`, which calls itself: what they ensure.
use Rattle.amqp_lines.proofs
use proofs.Names.{get_or, drop, refl, sym, append-nil, take_rest, slot_of, slots_of, read_slot, read_slots}
use proofs.Names.forms
use proofs.Names.slots
use proofs.ReadSteps.{then_read, slots_none, slots_some}
use proofs.reading.slots.+read_slots.Goals as goal

pub returns-in-empty : goal.returns-in-empty
returns-in-empty t c = rw (slots_none c.args.shapes.now c.in-empty.len_below) (refl, sym (append-nil _))

pub returns-in_ok-rest-in-len1-up : goal.returns-in_ok-rest-in-len1-up
returns-in_ok-rest-in-len1-up t c =
    let shape = get_or c.args.shapes.now 0 (slots.Kept forms.Octet) in
    let others = rw take_rest at c.read_slots.ensures in
    rw (slots_some c.args.shapes.now (slots.Kept forms.Octet) c.args.i.now c.in-len1-up.len_at_least)
    (then_read _ (read_slot (slot_of shape) c.args.i.now)
    (read_slots (slots_of (drop 1 c.args.shapes.now))) 0 _ _ _ c.in_ok-rest-in-len1-up.ensures refl others)
