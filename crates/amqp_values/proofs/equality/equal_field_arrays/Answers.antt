-- `equal_field_arrays`: what it ensures.
use Rattle.std.proofs.Common.{◌≡◌, ◌↔◌, IsTrue, List, sym, ap, ◌∙◌}
use Rattle.amqp_types.specs.Values.{FieldValue, items, values_of}
use Rattle.amqp_values.specs.Sameness.{same_items, same_items-decides}
use Rattle.amqp_laws.proofs.Conversions.{items-values_of}
use Rattle.amqp_values.proofs.equality.equal_field_arrays.Goals as goal

arrays_decide : (array other : List FieldValue) → IsTrue (same_items (values_of array) (values_of other)) ↔ (array ≡ other)
arrays_decide array other =
    let decides = same_items-decides (values_of array) (values_of other) in
    (λ h. sym (items-values_of array) ∙ ap items (decides.0 h) ∙ items-values_of other, λ e. decides.1 (ap values_of e))

pub returns : goal.returns
returns c = rw c.eq.ensures (arrays_decide c.args.a.now c.args.b.now)
