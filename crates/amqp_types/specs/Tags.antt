-- The tag bytes of values. They are this project's own table: the standard's grammar has others
-- in some places.
use Rattle.std.specs.Prelude.{◌≡◌, ℕ, ◌==◌, ◌⊎◌, if◌then◌else◌, List, [], ◌∷◌, Option, Some, None}
use Rattle.amqp_types.specs.Levels.{Level, plain, tidy, strict}
use Rattle.amqp_types.specs.Values.{FieldValue, short_short_int, short_int, long_int}
use Rattle.amqp_types.specs.Values.{long_long_int, short_short_uint, short_uint, long_uint, float}
use Rattle.amqp_types.specs.Values.{double, timestamp, long_string, byte_array, boolean_value}
use Rattle.amqp_types.specs.Values.{signed_value, unsigned_value, decimal_value, bytes_value}
use Rattle.amqp_types.specs.Values.{array_value, table_value, void_value}
use Rattle.amqp_types.specs.declared.tag.FieldTag.{FieldTag}
use Rattle.amqp_types.specs.declared.tag.FieldTag.TheVariants as tag

-- the byte that a tag is written as
abbrev pub tag_byte : FieldTag → ℕ
tag_byte tag.Boolean = 116
tag_byte tag.ShortShortInt = 98
tag_byte tag.ShortShortUInt = 66
tag_byte tag.ShortInt = 115
tag_byte tag.ShortUInt = 117
tag_byte tag.LongInt = 73
tag_byte tag.LongUInt = 105
tag_byte tag.LongLongInt = 108
tag_byte tag.Float = 102
tag_byte tag.Double = 100
tag_byte tag.DecimalValue = 68
tag_byte tag.LongString = 83
tag_byte tag.FieldArray = 65
tag_byte tag.Timestamp = 84
tag_byte tag.FieldTable = 70
tag_byte tag.ByteArray = 120
tag_byte tag.Void = 86

-- all tags, each once
abbrev pub tags : List FieldTag
tags =
    tag.Boolean ∷ tag.ShortShortInt ∷ tag.ShortShortUInt ∷ tag.ShortInt
    ∷ tag.ShortUInt ∷ tag.LongInt ∷ tag.LongUInt ∷ tag.LongLongInt ∷
    tag.Float ∷ tag.Double ∷ tag.DecimalValue ∷ tag.LongString ∷ tag.FieldArray
    ∷ tag.Timestamp ∷ tag.FieldTable ∷ tag.ByteArray ∷ tag.Void ∷ []

-- the byte `U`, which is read as `s`
abbrev pub short_int_read_byte : ℕ
short_int_read_byte = 85

-- the byte `L`, which is read as `l`
abbrev pub long_long_int_read_byte : ℕ
long_long_int_read_byte = 76

-- these two are read and never written
abbrev pub IsReadOnly : ℕ → FieldTag → Type 0
IsReadOnly byte tag.ShortInt = byte ≡ short_int_read_byte
IsReadOnly byte tag.LongLongInt = byte ≡ long_long_int_read_byte
IsReadOnly byte t = ⊥

-- the byte that is written, and at levels plain and tidy also one that is only read
abbrev pub SpellsTag : Level → ℕ → FieldTag → Type 0
SpellsTag plain byte t = (byte ≡ tag_byte t) ⊎ IsReadOnly byte t
SpellsTag tidy byte t = (byte ≡ tag_byte t) ⊎ IsReadOnly byte t
SpellsTag strict byte t = byte ≡ tag_byte t

-- the one among these tags that is written as this byte
abbrev pub tag_among : List FieldTag → ℕ → Option FieldTag
tag_among [] byte = None
tag_among (t ∷ ts) byte = if byte == tag_byte t then Some t else tag_among ts byte

-- the tag that a byte is read as
abbrev pub tag_at : ℕ → Option FieldTag
tag_at byte =
    if byte == short_int_read_byte then Some tag.ShortInt else (
    if byte == long_long_int_read_byte then Some tag.LongLongInt else
    tag_among tags byte)

-- the tag of a value
abbrev pub tag_of : FieldValue → FieldTag
tag_of (boolean_value b) = tag.Boolean
tag_of (signed_value short_short_int n) = tag.ShortShortInt
tag_of (signed_value short_int n) = tag.ShortInt
tag_of (signed_value long_int n) = tag.LongInt
tag_of (signed_value long_long_int n) = tag.LongLongInt
tag_of (unsigned_value short_short_uint n) = tag.ShortShortUInt
tag_of (unsigned_value short_uint n) = tag.ShortUInt
tag_of (unsigned_value long_uint n) = tag.LongUInt
tag_of (unsigned_value float n) = tag.Float
tag_of (unsigned_value double n) = tag.Double
tag_of (unsigned_value timestamp n) = tag.Timestamp
tag_of (decimal_value scale n) = tag.DecimalValue
tag_of (bytes_value long_string bytes) = tag.LongString
tag_of (bytes_value byte_array bytes) = tag.ByteArray
tag_of (array_value vs) = tag.FieldArray
tag_of (table_value es) = tag.FieldTable
tag_of void_value = tag.Void
