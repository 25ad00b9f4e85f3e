-- `write_slots`, which calls itself: what they ensure.
use Rattle.amqp_lines.proofs
use proofs.Names.{take_rest}
use proofs.Names.forms
use proofs.Names.slots
use proofs.RenderedSlots.{no_slots, slots_said}
use proofs.slots.+write_slots.Goals as goal

pub returns-in-empty : goal.returns-in-empty
returns-in-empty t c = no_slots _ _ _ c.in-empty.len_below

pub returns-in_ok-used-in-len1-up : goal.returns-in_ok-used-in-len1-up
returns-in_ok-used-in-len1-up t c =
    let others = rw take_rest at c.write_slots.ensures in
    slots_said _ (slots.Kept forms.Octet) _ _ _ _
    _ _ _ c.in-len1-up.len_at_least c.in_ok-used-in-len1-up.ensures c.bytes_from.ensures others
