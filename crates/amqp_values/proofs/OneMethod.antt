-- What the tactics open, to prove the calls of one method from its row of the table. A longer list makes each goal dearer.
use Rattle.std.specs.Prelude.{⊤}
use Rattle.amqp_types.specs.Rows.{rows_of, slots_at}
use Rattle.amqp_types.specs.SlotJudging.{judge_slots}
use Rattle.amqp_types.specs.SlotBytes.{form_bytes, slots_bytes, items_size}
use Rattle.amqp_types.specs.Methods.{judge_method, method_bytes, method_size, payload_bytes, payload_size}
use Rattle.amqp_values.specs.Fields.{field_bytes, is_deep_field, is_long_field, fields_bytes, any_deep_field, any_long_field, fields_size}

-- for fields that are read at once
unfoldable pub read_at_once : ⊤
unfolding rows_of slots_at judge_method
read_at_once = tt

-- for fields that are read one by one
unfoldable pub read_one_by_one : ⊤
unfolding rows_of slots_at judge_slots judge_method
read_one_by_one = tt

-- for the list of fields that is written: the table's row, and the bytes and sizes of fields, methods and payloads
unfoldable pub listed : ⊤
unfolding rows_of slots_at field_bytes is_deep_field is_long_field fields_bytes any_deep_field any_long_field
    fields_size form_bytes slots_bytes items_size method_bytes method_size payload_bytes payload_size
listed = tt
