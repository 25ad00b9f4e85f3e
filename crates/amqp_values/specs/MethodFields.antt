-- Fields that stand for a method.
use Rattle.std.specs.Prelude.{◌≡◌, ◌≤◌, List, length, drop}
use Rattle.amqp_types.specs.Methods.{Method, method_bytes, method_size, payload_bytes, payload_size}
use Rattle.amqp_laws.specs.HeldMethods.{IsHeldMethod}
use Rattle.amqp_values.specs.declared.fields.Field.{Field}
use Rattle.amqp_values.specs.Fields.{fields_bytes, fields_size, AreFieldsHeld}

-- The fields are written as a class id, a method id and fields; without the first of them, as the
-- method id and the fields.
-- Where they are held, the method is.
pub record ListsMethod (fields : List Field) (m : Method) : Type 0 where
  pub few : length fields ≤ 64
  pub payload : fields_bytes fields ≡ payload_bytes m
  pub payload_sized : fields_size fields ≡ payload_size m
  pub slots : fields_bytes (drop 1 fields) ≡ method_bytes m
  pub slots_sized : fields_size (drop 1 fields) ≡ method_size m
  pub held : AreFieldsHeld fields → IsHeldMethod m
