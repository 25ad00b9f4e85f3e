-- the calls of cycle `copy`: what loops keep and what falls with each iteration or call.
use Rattle.std.proofs.Common.{◌≡◌, ◌++◌, take, map}
use Rattle.amqp_types.specs.Values.{weight, values_weight, entries_weight, values_of, entries_of}
use Rattle.amqp_values.specs.Views.{value_of}
use Rattle.amqp_values.proofs.value.+copy.Given as goal

abbrev pub decreases-AMQPValue::copy : goal.decreases-AMQPValue::copy
decreases-AMQPValue::copy l = weight (value_of l.self.now)

abbrev pub decreases-FieldArray::copy : goal.decreases-FieldArray::copy
decreases-FieldArray::copy l = values_weight (values_of l.self.now)

abbrev pub decreases-FieldTable::copy : goal.decreases-FieldTable::copy
decreases-FieldTable::copy l = entries_weight (entries_of l.self.now)

abbrev pub invariant-FieldArray::copy-loop-value : goal.invariant-FieldArray::copy-loop-value
invariant-FieldArray::copy-loop-value l = (map value_of l.value-items ≡ l.self) × (l.copied ≡ map value_of (take l.value-index l.value-items))

abbrev pub invariant-FieldTable::copy-loop-key : goal.invariant-FieldTable::copy-loop-key
invariant-FieldTable::copy-loop-key l = l.copied ++ l.key-iterator ≡ l.self
