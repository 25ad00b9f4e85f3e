-- `list_slots`, which calls itself: what they ensure.
use Rattle.std.proofs.Common.{◌≡◌, ap, ◌∙◌, arith}
use Rattle.amqp_fields.proofs.Names.{take_rest, listed_form, listed_slot, next_place}
use Rattle.amqp_canonical.specs.declared.shapes.Form.TheVariants as forms
use Rattle.amqp_canonical.specs.declared.shapes.Slot.TheVariants as slots
use Rattle.amqp_fields.proofs.SlotSteps.{reserved_first, slots_listed}
use Rattle.amqp_fields.proofs.fields.+list_slots.Goals as goal

pub returns-in-Reserved : goal.returns-in-Reserved
returns-in-Reserved t c =
    let others = rw take_rest at c.list_slots.ensures in
    reserved_first _ _ _ _ (slots.Kept forms.Octet) _ _ _ _ _ _ _ _ _
    c.in-len1-up.len_at_least c.in-Reserved.is (omega arith) c.form_size.ensures.used c.bytes_from-rest.ensures others

pub returns-in-Kept : goal.returns-in-Kept
unfolding listed_slot
returns-in-Kept t c =
    let others = rw take_rest at c.list_slots-in-Kept.ensures in
    slots_listed _ _ _ _ _ (slots.Kept forms.Octet) (slots.Kept c.in-Kept.form) _ _ _ _ _ _ _ c.list_form-step.result
    c.in-len1-up.len_at_least c.in-Kept.is c.list_form-step.ensures.listed
    (c.further-place-in-Kept.ensures ∙ ap (next_place c.args.place) c.field_count.ensures) (take_rest c.args.i.now c.list_form-step.result.used) others

pub returns-in-Kept-Flags : goal.returns-in-Kept-Flags
unfolding listed_form listed_slot
returns-in-Kept-Flags t c =
    let flags : c.in-Kept-Flags.field-0 ≡ forms.Flags c.in-Kept-Flags.flags = rw c.in-Kept-Flags.is at c.in-Kept-Flags.field-0-is in
    let others = rw take_rest at c.list_slots-in-Kept-Flags.ensures in
    slots_listed _ _ _ _ _ (slots.Kept forms.Octet) (slots.Kept (forms.Flags c.in-Kept-Flags.flags)) _ _ _ _ _ _ _ c.list_flags-step.result
    c.in-len1-up.len_at_least (c.in-Kept-Flags.is ∙ ap slots.Kept flags) c.list_flags-step.ensures.listed c.further-place.ensures
    (take_rest c.args.i.now c.list_flags-step.result.used) others
