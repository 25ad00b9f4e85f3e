-- What borrowed values stand for. The arrays and tables in them are seen as their lists already.
use Rattle.std.specs.Prelude.{ℕ, List, Option, Some, None}
use Rattle.amqp_types.specs.Judging.{Judged, took, past, fault}
use Rattle.amqp_types.specs.Values.{FieldValue, Entry, short_short_int, short_int, long_int}
use Rattle.amqp_types.specs.Values.{long_long_int, short_short_uint, short_uint, long_uint, float}
use Rattle.amqp_types.specs.Values.{double, timestamp, long_string, byte_array, boolean_value}
use Rattle.amqp_types.specs.Values.{signed_value, unsigned_value, decimal_value, bytes_value}
use Rattle.amqp_types.specs.Values.{array_value, table_value, void_value, values_of, entries_of}
use Rattle.std.specs.Borrow.{Bor}
use Rattle.amqp_lent.specs.declared.value.LentValue.{LentValue}
use Rattle.amqp_lent.specs.declared.value.LentValue.TheVariants as variant

-- the value that a borrowed value stands for
abbrev pub value_of : LentValue → FieldValue
value_of (variant.Boolean b) = boolean_value b
value_of (variant.ShortShortInt n) = signed_value short_short_int n
value_of (variant.ShortShortUInt n) = unsigned_value short_short_uint n
value_of (variant.ShortInt n) = signed_value short_int n
value_of (variant.ShortUInt n) = unsigned_value short_uint n
value_of (variant.LongInt n) = signed_value long_int n
value_of (variant.LongUInt n) = unsigned_value long_uint n
value_of (variant.LongLongInt n) = signed_value long_long_int n
value_of (variant.Float n) = unsigned_value float n
value_of (variant.Double n) = unsigned_value double n
value_of (variant.DecimalValue d) = decimal_value d.scale d.value
value_of (variant.LongString s) = bytes_value long_string s.now
value_of (variant.FieldArray vs) = array_value (values_of vs)
value_of (variant.Timestamp n) = unsigned_value timestamp n
value_of (variant.FieldTable es) = table_value (entries_of es)
value_of (variant.ByteArray s) = bytes_value byte_array s.now
value_of variant.Void = void_value

-- a borrowed key with its value
abbrev pub entry_of : Bor (List ℕ) × LentValue → Entry
entry_of e = (e.0.now, value_of e.1)

-- what was taken, if anything was
abbrev pub taken : {A : Type 0} → Judged A → Option A
taken (took x n) = Some x
taken past = None
taken (fault bad) = None
