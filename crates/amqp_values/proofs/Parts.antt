-- The parts of an array or a table: their weight is below that of the whole.
use Rattle.std.proofs.Common.{ℕ, zero, suc, ◌<◌, List, [], ◌∷◌, ◌++◌, length, get_or, map, arith}
use Rattle.amqp_types.specs.Values.{Entry, weight, values_weight, entries_weight, values_of, entries_of}
use Rattle.amqp_values.specs.Views.{value_of}
use Rattle.amqp_values.specs.declared.value.AMQPValue.{AMQPValue}

-- The weight of a value of an array is below that of all its values.
pub weight_at : (xs : List AMQPValue) (i : ℕ) (d : AMQPValue) → i < length xs → weight (value_of (get_or xs i d)) < values_weight (values_of (map value_of xs))
weight_at [] i d h = absurd (omega arith)
weight_at (x ∷ xs) zero d h = omega arith
weight_at (x ∷ xs) (suc i) d h = omega (arith, weight_at xs i d (omega arith))

-- The weight of the value of an entry is below that of all the entries around it.
pub weight_in : (done : List Entry) (e : Entry) (more : List Entry) → weight e.1 < entries_weight (entries_of (done ++ e ∷ more))
weight_in [] e more = omega arith
weight_in (x ∷ done) e more = omega (arith, weight_in done e more)
