-- What an `AMQPValue` means. The arrays and tables in it are seen as their lists already.
use Rattle.std.specs.Prelude.{ℕ, List}
use Rattle.amqp_types.specs.Values.{FieldValue, Entry, short_short_int, short_int, long_int}
use Rattle.amqp_types.specs.Values.{long_long_int, short_short_uint, short_uint, long_uint, float}
use Rattle.amqp_types.specs.Values.{double, timestamp, long_string, byte_array, boolean_value}
use Rattle.amqp_types.specs.Values.{signed_value, unsigned_value, decimal_value, bytes_value}
use Rattle.amqp_types.specs.Values.{array_value, table_value, void_value, values_of, entries_of}
use Rattle.amqp_values.specs.declared.value.AMQPValue.{AMQPValue}
use Rattle.amqp_values.specs.declared.value.AMQPValue.TheVariants as variant

-- a value by its kind and content (AMQP 0-9-1, section 4.2.5.5); a float or a double by its bits, a
-- time by its number
abbrev pub value_of : AMQPValue → FieldValue
value_of (variant.Boolean b) = boolean_value b
value_of (variant.ShortShortInt n) = signed_value short_short_int n
value_of (variant.ShortShortUInt n) = unsigned_value short_short_uint n
value_of (variant.ShortInt n) = signed_value short_int n
value_of (variant.ShortUInt n) = unsigned_value short_uint n
value_of (variant.LongInt n) = signed_value long_int n
value_of (variant.LongUInt n) = unsigned_value long_uint n
value_of (variant.LongLongInt n) = signed_value long_long_int n
value_of (variant.Float n) = unsigned_value float n
value_of (variant.Double n) = unsigned_value double n
value_of (variant.DecimalValue d) = decimal_value d.scale d.value
value_of (variant.LongString s) = bytes_value long_string s
value_of (variant.FieldArray vs) = array_value (values_of vs)
value_of (variant.Timestamp n) = unsigned_value timestamp n
value_of (variant.FieldTable es) = table_value (entries_of es)
value_of (variant.ByteArray s) = bytes_value byte_array s
value_of variant.Void = void_value

-- a key with its value
abbrev pub entry_of : List ℕ × AMQPValue → Entry
entry_of e = (e.0, value_of e.1)
