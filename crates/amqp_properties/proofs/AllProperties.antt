-- What the tactics open, to prove the writing of all properties from their table.
use Rattle.std.specs.Prelude.{⊤}
use Rattle.amqp_types.specs.Properties.{properties}
use Rattle.amqp_types.specs.PropertyBytes.{properties_bytes, properties_size, set_bytes, any_deep_option, any_long_option}
use Rattle.amqp_values.specs.Fields.{fields_bytes, fields_size, any_deep_field, any_long_field}

-- the table, its bytes and size, and those of the fields that are written
unfoldable pub all_properties : ⊤
unfolding fields_bytes fields_size any_deep_field any_long_field properties_bytes properties_size properties set_bytes any_deep_option any_long_option
all_properties = tt
