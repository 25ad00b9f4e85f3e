-- Reading values from the left out of one payload, table or array.
use Rattle.std.specs.Prelude.{ℕ, zero, suc, ◌+◌, ◌-◌, List, [], ◌∷◌}
use Rattle.std.specs.Prelude.{Option, Some, None, Result, Ok, Err}
use Rattle.amqp_types.specs.Judging.{Judged, Judge, Fault, took, past, fault}
use Rattle.amqp_types.specs.Judging.{short_payload, unknown_tag, too_deep, ◌>>=◌}
use Rattle.amqp_types.specs.Sequences.{judge_map, judge_both}
use Rattle.amqp_types.specs.Numbers.{bytes1, bytes4, judge_number}
use Rattle.amqp_types.specs.Signed.{judge_signed}
use Rattle.amqp_types.specs.Booleans.{judge_boolean}
use Rattle.amqp_types.specs.Strings.{judge_short_string, judge_long_string}
use Rattle.amqp_types.specs.Values.{FieldValue, Entry, SignedKind, UnsignedKind, BytesKind}
use Rattle.amqp_types.specs.Values.{short_short_int, short_int, long_int, long_long_int}
use Rattle.amqp_types.specs.Values.{short_short_uint, short_uint, long_uint, float, double}
use Rattle.amqp_types.specs.Values.{timestamp, long_string, byte_array, boolean_value, signed_value}
use Rattle.amqp_types.specs.Values.{unsigned_value, decimal_value, bytes_value, array_value}
use Rattle.amqp_types.specs.Values.{table_value, void_value, values_of, entries_of}
use Rattle.amqp_types.specs.ValueBytes.{signed_width, unsigned_width}
use Rattle.amqp_types.specs.Tags.{tag_at}
use Rattle.amqp_types.specs.Settling.{settled}
use Rattle.amqp_types.specs.declared.tag.FieldTag.{FieldTag}
use Rattle.amqp_types.specs.declared.tag.FieldTag.TheVariants as tag
use Rattle.amqp_types.specs.declared.errors.ParserError.{ParserError}
use Rattle.amqp_types.specs.declared.errors.ParserError.TheVariants as errors
use Rattle.amqp_types.specs.Constants.{max_depth, inner_depth}

-- ---- what fills a table or an array

-- what is made of a result; a fault stays
abbrev pub read_map : {A B : Type 0} → (A → B) → Result A Fault → Result B Fault
read_map f (Ok x) = Ok (f x)
read_map f (Err bad) = Err bad

-- One item in front of others. What passes the end of a table or an array, whose bytes are all
-- there, is a short payload.
abbrev pub next_item : {A : Type 0} → Judged A → (ℕ → Result (List A) Fault) → Result (List A) Fault
next_item (took x n) others = read_map (λ xs. x ∷ xs) (others n)
next_item past others = Err short_payload
next_item (fault bad) others = Err bad

-- The items that fill some bytes, one after another. The number counts the bytes of the item before
-- that are still to be passed.
unfoldable pub filled : {A : Type 0} → Judge A → ℕ → List ℕ → Result (List A) Fault
filled item k [] = Ok []
filled item (suc k) (b ∷ bytes) = filled item k bytes
filled item zero (b ∷ bytes) = next_item (item (b ∷ bytes)) (λ n. filled item (n - 1) bytes)

-- what was read out of n bytes
abbrev pub took_all : {A : Type 0} → ℕ → Result A Fault → Judged A
took_all n (Ok x) = took x n
took_all n (Err bad) = fault bad

-- a key, and after it its value
unfoldable pub judge_entry : Judge FieldValue → Judge Entry
judge_entry value = judge_both judge_short_string value (λ k v. (k, v))

-- an array: a length of four bytes, and values that fill that many bytes, where `value`
-- decodes each of them
unfoldable pub judge_array : Judge FieldValue → Judge (List FieldValue)
judge_array value bytes = do
  content ← judge_long_string bytes
  took_all content.1 (filled value 0 content.0)

-- a table: a length of four bytes, and entries that fill that many bytes; of duplicate keys
-- the last one wins
unfoldable pub judge_table : Judge FieldValue → Judge (List Entry)
judge_table value bytes = do
  content ← judge_long_string bytes
  took_all content.1 (read_map settled (filled (judge_entry value) 0 content.0))

-- ---- values

-- a scale and a number
unfoldable pub judge_decimal : Judge (ℕ × ℕ)
judge_decimal = judge_both (judge_number bytes1) (judge_number bytes4) (λ scale n. (scale, n))

-- a signed number, of the kind's width
abbrev pub judge_signed_kind : SignedKind → Judge FieldValue
judge_signed_kind kind = judge_map (signed_value kind) (judge_signed (signed_width kind))

-- an unsigned number or bits, of the kind's width
abbrev pub judge_unsigned_kind : UnsignedKind → Judge FieldValue
judge_unsigned_kind kind = judge_map (unsigned_value kind) (judge_number (unsigned_width kind))

-- a length of four bytes and that many bytes, for either kind
abbrev pub judge_bytes_kind : BytesKind → Judge FieldValue
judge_bytes_kind kind = judge_map (bytes_value kind) judge_long_string

-- the value after a known tag; `nested` decodes a value one level deeper, where one
-- more may be nested
unfoldable pub judge_behind : Option (Judge FieldValue) → FieldTag → Judge FieldValue
judge_behind nested tag.Boolean bytes = judge_map boolean_value judge_boolean bytes
judge_behind nested tag.ShortShortInt bytes = judge_signed_kind short_short_int bytes
judge_behind nested tag.ShortShortUInt bytes = judge_unsigned_kind short_short_uint bytes
judge_behind nested tag.ShortInt bytes = judge_signed_kind short_int bytes
judge_behind nested tag.ShortUInt bytes = judge_unsigned_kind short_uint bytes
judge_behind nested tag.LongInt bytes = judge_signed_kind long_int bytes
judge_behind nested tag.LongUInt bytes = judge_unsigned_kind long_uint bytes
judge_behind nested tag.LongLongInt bytes = judge_signed_kind long_long_int bytes
judge_behind nested tag.Float bytes = judge_unsigned_kind float bytes
judge_behind nested tag.Double bytes = judge_unsigned_kind double bytes
judge_behind nested tag.DecimalValue bytes =
    judge_map (λ d. decimal_value d.0 d.1) judge_decimal bytes
judge_behind nested tag.LongString bytes = judge_bytes_kind long_string bytes
judge_behind None tag.FieldArray bytes = fault too_deep
judge_behind (Some value) tag.FieldArray bytes =
    judge_map (λ vs. array_value (values_of vs)) (judge_array value) bytes
judge_behind nested tag.Timestamp bytes = judge_unsigned_kind timestamp bytes
judge_behind None tag.FieldTable bytes = fault too_deep
judge_behind (Some value) tag.FieldTable bytes =
    judge_map (λ es. table_value (entries_of es)) (judge_table value) bytes
judge_behind nested tag.ByteArray bytes = judge_bytes_kind byte_array bytes
judge_behind nested tag.Void bytes = took void_value 0

-- after a tag byte, where it is a known one
abbrev pub behind_tag : Option (Judge FieldValue) → Option FieldTag → Judge FieldValue
behind_tag nested None bytes = fault unknown_tag
behind_tag nested (Some t) bytes = judge_behind nested t bytes >>= λ v. took v.0 (1 + v.1)

-- a tag byte, and after it the value; where no byte is left, this is incomplete
unfoldable pub judge_tagged : Option (Judge FieldValue) → Judge FieldValue
judge_tagged nested [] = past
judge_tagged nested (byte ∷ bytes) = behind_tag nested (tag_at byte) bytes

-- how a value one level deeper is decoded, where so many more may be nested
unfoldable pub nested : ℕ → Option (Judge FieldValue)
nested zero = None
nested (suc depth_left) = Some (judge_tagged (nested depth_left))

-- a tag and its value, in which tables and arrays may nest so deep
unfoldable pub judge_value : ℕ → Judge FieldValue
judge_value depth_left = judge_tagged (nested depth_left)

-- ---- at most 64 levels

-- a tag and its value, in which tables and arrays may nest 64 deep
abbrev pub judge_field_value : Judge FieldValue
judge_field_value = judge_value max_depth

-- an array without a tag: it is the first level, and in its values 63 more may be nested
abbrev pub judge_field_array : Judge (List FieldValue)
judge_field_array = judge_array (judge_value inner_depth)

-- a table without a tag: it is the first level, and in its values 63 more may be nested
abbrev pub judge_field_table : Judge (List Entry)
judge_field_table = judge_table (judge_value inner_depth)

-- a refusal of what stands inside a table or an array whose bytes are all there
abbrev pub inside_error : ParserError → ParserError
inside_error errors.Incomplete = errors.ShortPayload
inside_error error = error
