-- Values that may stand in a table or an array.
use Rattle.amqp_types.specs.Constants.{inner_depth}
use Rattle.amqp_types.specs.Levels.{strict}
use Rattle.amqp_types.specs.Values.{FieldValue}
use Rattle.amqp_types.specs.ValueBytes.{tagged_bytes}
use Rattle.amqp_types.specs.ValueSpelling.{SpellsValue}

-- Its canonical bytes encode it, as a value in a table or an array that is a field.
pub record IsWritten (v : FieldValue) : Type 0 where
  pub spelled : SpellsValue strict inner_depth (tagged_bytes v) v
