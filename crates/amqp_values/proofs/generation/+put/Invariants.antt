-- the calls of cycle `put`: what loops keep and what falls with each iteration or call.
use Rattle.std.proofs.Common.{◌≡◌, ℕ, ◌+◌, ◌*◌, ◌≤◌, drop, map, List, false}
use Rattle.amqp_types.specs.Values.{weight, values_weight, entries_weight, values_of, entries_of}
use Rattle.amqp_types.specs.ValueBytes.{values_bytes, entries_bytes, any_value_long, any_entry_long}
use Rattle.amqp_values.specs.Views.{value_of}
use Rattle.amqp_laws.proofs.Pieces.{IsPut}
use Rattle.amqp_values.proofs.generation.+put.Given as goal

abbrev pub decreases-put_behind : goal.decreases-put_behind
decreases-put_behind l = 3 * weight (value_of l.value.now)

abbrev pub decreases-put_tagged : goal.decreases-put_tagged
decreases-put_tagged l = 3 * weight (value_of l.value.now) + 1

abbrev pub decreases-put_array : goal.decreases-put_array
decreases-put_array l = 3 * values_weight (values_of l.array.now) + 2

abbrev pub decreases-put_table : goal.decreases-put_table
decreases-put_table l = 3 * entries_weight (entries_of l.table.now) + 2

abbrev pub invariant-put_array-loop-value : goal.invariant-put_array-loop-value
invariant-put_array-loop-value l =
    record {
      all : map value_of l.value-items ≡ l.array;
      short : any_value_long (values_of (map value_of (drop l.value-index l.value-items))) ≡ false;
      put : (done : List ℕ)
          × IsPut l.fn.buf l.buf (l.at + 4) l.end done
          (values_bytes (values_of (map value_of (drop l.value-index l.value-items)))) (values_bytes (values_of l.array));
    }

abbrev pub invariant-put_table-loop-key : goal.invariant-put_table-loop-key
invariant-put_table-loop-key l =
    record {
      short : any_entry_long (entries_of l.key-iterator) ≡ false;
      smaller : entries_weight (entries_of l.key-iterator) ≤ entries_weight (entries_of l.table);
      put : (done : List ℕ) × IsPut l.fn.buf l.buf (l.at + 4) l.end done (entries_bytes (entries_of l.key-iterator)) (entries_bytes (entries_of l.table));
    }
