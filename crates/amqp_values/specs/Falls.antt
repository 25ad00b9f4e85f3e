-- What nested values count for in the sizes of arrays and tables: no more than they weigh, so that
-- sizes fall with each level.
use Rattle.std.specs.Prelude.{ℕ, ◌≤◌, List, [], ◌∷◌, map}
use Rattle.std.proofs.Common.{arith}
use denote.Param.Weighed.{most}
use Rattle.amqp_types.specs.Values.{weight, values_weight, entries_weight, values_of, entries_of}
use Rattle.amqp_values.specs.Views.{value_of, entry_of}
use Rattle.amqp_values.specs.declared.value.AMQPValue.{AMQPValue}
use Rattle.amqp_values.specs.declared.value.AMQPValue.TheVariants as variant
use Rattle.amqp_values.specs.declared.value.FieldArray.TheDeep.{deep-AMQPValue}

-- what a value counts for in the array or the table that holds it is at most its weight
deep_le : (v : AMQPValue) → deep-AMQPValue v ≤ weight (value_of v)
deep_le (variant.Boolean b) = omega arith
deep_le (variant.ShortShortInt n) = omega arith
deep_le (variant.ShortShortUInt n) = omega arith
deep_le (variant.ShortInt n) = omega arith
deep_le (variant.ShortUInt n) = omega arith
deep_le (variant.LongInt n) = omega arith
deep_le (variant.LongUInt n) = omega arith
deep_le (variant.LongLongInt n) = omega arith
deep_le (variant.Float n) = omega arith
deep_le (variant.Double n) = omega arith
deep_le (variant.DecimalValue d) = omega arith
deep_le (variant.LongString s) = omega arith
deep_le (variant.FieldArray vs) = omega arith
deep_le (variant.Timestamp n) = omega arith
deep_le (variant.FieldTable es) = omega arith
deep_le (variant.ByteArray s) = omega arith
deep_le variant.Void = omega arith

-- the most that one value of an array counts for is at most what all its values weigh
pub most_values : (vs : List AMQPValue)
    → most deep-AMQPValue vs ≤ values_weight (values_of (map value_of vs))
most_values [] = omega arith
most_values (v ∷ vs) = omega (arith, deep_le v, most_values vs)

-- the most that the value of one entry of a table counts for is at most what all its entries weigh
pub most_entries : (es : List (List ℕ × AMQPValue))
    → most deep-AMQPValue (map (λ x. x.1) es) ≤ entries_weight (entries_of (map entry_of es))
most_entries [] = omega arith
most_entries (e ∷ es) = omega (arith, deep_le e.1, most_entries es)
