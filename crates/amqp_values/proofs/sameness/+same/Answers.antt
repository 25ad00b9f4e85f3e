-- the calls of cycle `same`: what they ensure and what calls require.
use Rattle.std.proofs.Common.{◌≡◌, ◌≢◌, List, [], ◌∷◌, length, map, Bool, true, false, ◌&&◌, refl, ap, ap₂, ◌∙◌, arith}
use Rattle.amqp_types.specs.Values.{weight, values_weight, values_of}
use Rattle.amqp_values.specs.Views.{value_of}
use Rattle.amqp_values.specs.Sameness.{same_value, same_items}
use Rattle.amqp_values.specs.declared.value.AMQPValue.{AMQPValue}
use Rattle.amqp_values.proofs.Parts.{weight_at}
use Rattle.amqp_values.proofs.sameness.+same.Goals as goal

other_length : (xs ys : List AMQPValue) → length xs ≢ length ys → false ≡ same_items (values_of (map value_of xs)) (values_of (map value_of ys))
other_length [] [] h = absurd (h refl)
other_length [] (y ∷ ys) h = refl
other_length (x ∷ xs) [] h = refl
other_length (x ∷ xs) (y ∷ ys) h = and_false (same_value (value_of x) (value_of y)) _ (other_length xs ys (λ e. h (omega arith)))
  where
    and_false : (a b : Bool) → false ≡ b → false ≡ (a && b)
    and_false true b e = e
    and_false false b e = refl

pub is_same_array-returns-then-mine-theirs : goal.is_same_array-returns-then-mine-theirs
is_same_array-returns-then-mine-theirs t c =
    other_length _ _ c.if-mine-theirs.true ∙ ap₂ (λ vs ws. same_items (values_of vs) (values_of ws)) c.as_slice-mine.ensures c.as_slice-theirs.ensures

pub is_same_array-is_same_value-requires : goal.is_same_array-is_same_value-requires
is_same_array-is_same_value-requires t c =
    let xs = c.as_slice-mine.result.now in
    let small = weight_at xs c.loop-i.i c.index-mine-i.result c.loop-i-test.true in
    let here = ap (λ v. weight (value_of v)) c.index-mine-i.is in
    let all = ap (λ vs. values_weight (values_of vs)) c.loop-i.invariant.mine in
    (omega (arith, c.decreases, small, here, all), tt)
