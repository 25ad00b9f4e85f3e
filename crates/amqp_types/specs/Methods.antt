-- Methods as they stand in a payload: a class id, a method id and the fields of the method (AMQP
-- 0-9-1, section 4.2.4).
use Rattle.std.specs.Prelude.{ℕ, ◌+◌, List, [], ◌++◌, drop, Option, Some, None, unwrap_or, Result}
use Rattle.amqp_types.specs.Judging.{Judged, Judge, Fault, took, fault}
use Rattle.amqp_types.specs.Judging.{unknown_class, unknown_method, ◌>>=◌}
use Rattle.amqp_types.specs.Numbers.{bytes2, number_bytes, judge_number}
use Rattle.amqp_types.specs.Slots.{Item}
use Rattle.amqp_types.specs.SlotJudging.{judge_slots}
use Rattle.amqp_types.specs.SlotBytes.{slots_bytes, items_size}
use Rattle.amqp_types.specs.Rows.{rows_of, slots_at}
use Rattle.amqp_types.specs.declared.errors.GenError.{GenError}

-- a method of a class by its id, and what its fields give
pub record Method : Type 0 where
  pub class : ℕ
  pub id : ℕ
  pub items : List Item

-- the method with this class id, this method id and these items
abbrev pub method : ℕ → ℕ → List Item → Method
method class id items = record { class = class; id = id; items = items }

-- ---- the canonical bytes, and their size

-- the method id and the fields; of a method that is not in the table, no fields
unfoldable pub method_bytes : Method → List ℕ
method_bytes m =
    number_bytes bytes2 m.id ++ slots_bytes (unwrap_or (slots_at m.class m.id) []) m.items

-- the size in bytes of the method id and the fields, or why they are not written
unfoldable pub method_size : Method → Result ℕ GenError
method_size m = items_size m.items (method_bytes m)

-- the class id, and the method after it
unfoldable pub payload_bytes : Method → List ℕ
payload_bytes m = number_bytes bytes2 m.class ++ method_bytes m

-- the size in bytes of both ids and the fields, or why they are not written
unfoldable pub payload_size : Method → Result ℕ GenError
payload_size m = items_size m.items (payload_bytes m)

-- ---- decoding

-- what stands in the table, in no bytes
abbrev pub known : {A : Type 0} → Fault → Option A → Judged A
known unknown None = fault unknown
known unknown (Some x) = took x 0

-- the fields of a method, after both ids
unfoldable pub judge_method : ℕ → ℕ → Judge Method
judge_method class id bytes = do
  slots ← known unknown_method (slots_at class id)
  items ← judge_slots slots.0 bytes
  took (method class id items.0) items.1

-- a method id and the fields, after a class id
unfoldable pub judge_in_class : ℕ → Judge Method
judge_in_class class bytes = do
  rows ← known unknown_class (rows_of class)
  id ← judge_number bytes2 bytes
  m ← judge_method class id.0 (drop id.1 bytes)
  took m.0 (id.1 + m.1)

-- a class id, a method id and the fields
unfoldable pub judge_payload : Judge Method
judge_payload bytes = do
  class ← judge_number bytes2 bytes
  m ← judge_in_class class.0 (drop class.1 bytes)
  took m.0 (class.1 + m.1)
