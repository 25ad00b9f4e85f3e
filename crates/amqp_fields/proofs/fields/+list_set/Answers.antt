-- `list_set`, which calls itself: what they ensure.
use Rattle.std.proofs.Common.{refl, arith}
use Rattle.std.proofs.lemmas.List.{take_rest}
use Rattle.amqp_canonical.specs.declared.shapes.Form.TheVariants as forms
use Rattle.amqp_fields.proofs.TopBits.{top_listed}
use Rattle.amqp_fields.proofs.fields.+list_set.Goals as goal

pub returns : goal.returns
returns t c =
    let others = rw take_rest at c.list_set.ensures in
    top_listed _ _ _ _ _ _ (0, forms.Octet) _ _ _ _ _ _ _ c.list_form-step.result
    c.property_shapes.ensures c.if-mask-lt4.false c.ilog2-bit.ensures.power_le c.ilog2-bit.ensures.next_power_gt
    c.ilog2-bit.ensures.bound (omega arith) c.list_form-step.ensures.listed refl others
