-- `list_two`: what it ensures of a number and flags.
use Rattle.std.proofs.Common.{◌≡◌, refl, ◌∙◌, ap}
use Rattle.amqp_fields.proofs.Names.{take_rest}
use Rattle.amqp_canonical.specs.declared.shapes.Form.TheVariants as forms
use Rattle.amqp_canonical.specs.declared.shapes.Slot.TheVariants as slots
use Rattle.amqp_fields.proofs.SlotSteps.{number_and_flags}
use Rattle.amqp_fields.proofs.fields.list_two.Goals as goal

pub returns : goal.returns
returns c =
    let number : c.in-Kept-LongLong.field-0 ≡ forms.LongLong = rw c.in-Kept-LongLong.is at c.in-Kept-LongLong.field-0-is in
    let flags : c.in-Kept-Flags.field-0 ≡ forms.Flags c.in-Kept-Flags.flags = rw c.in-Kept-Flags.is at c.in-Kept-Flags.field-0-is in
    let listed = rw take_rest at c.list_flags.ensures.listed in
    number_and_flags _ _ 0 1 c.in-Kept-Flags.flags _ _ (slots.Kept forms.Octet) _ _ _ _ _ _ c.list_long_long-number.result c.list_flags.result
    c.in-len2.len_at_least c.in-len2.len_below (c.in-Kept-LongLong.is ∙ ap slots.Kept number)
    (c.in-Kept-Flags.is ∙ ap slots.Kept flags) c.placed.ensures c.list_long_long-number.ensures.listed refl refl listed
