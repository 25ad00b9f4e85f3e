-- How a line is read, from the left: the bytes that a text stands for, and the text after it. Any
-- text is read as something: one that is not the text of its bytes is refused by writing these as
-- text again, and comparing both.
use Rattle.std.specs.Prelude.{◌≡◌, ℕ, zero, suc, ◌+◌, ◌-◌, ◌*◌, ◌%◌, ◌^◌, ◌==◌, nat_lt, nat_le}
use Rattle.std.specs.Prelude.{◌&&◌, ◌||◌, List, [], ◌∷◌, ◌++◌, length, get_or, take, drop, Bool}
use Rattle.std.specs.Prelude.{true, false, Option, Some, None, Result, Ok, Err, if◌then◌else◌}
use Rattle.amqp_types.specs.Numbers.{bytes1, bytes2, bytes8, byte_count, number_bytes}
use Rattle.amqp_types.specs.Booleans.{boolean_bytes}
use Rattle.amqp_types.specs.Flags.{bit_of}
use Rattle.amqp_types.specs.Tags.{tag_at}
use Rattle.amqp_types.specs.Rows.{slots_at}
use Rattle.amqp_types.specs.Slots.{Form, number_form, flags_form, short_string_form}
use Rattle.amqp_types.specs.Slots.{long_string_form, table_form, Slot, kept_slot, reserved_slot}
use Rattle.amqp_types.specs.SlotBytes.{form_bytes}
use Rattle.amqp_types.specs.Properties.{Property, properties}
use Rattle.amqp_types.specs.ContentHeaders.{header_slots}
use Rattle.amqp_types.specs.Constants.{inner_depth}
use Rattle.amqp_types.specs.declared.tag.FieldTag.{FieldTag}
use Rattle.amqp_types.specs.declared.tag.FieldTag.TheVariants as tag
use Rattle.amqp_types.specs.declared.errors.NoMemory.{NoMemory}
use Rattle.amqp_wire.specs.declared.frame_type.AMQPFrameType.{AMQPFrameType}
use Rattle.amqp_wire.specs.declared.frame_type.AMQPFrameType.TheVariants as kinds
use Rattle.amqp_wire.specs.Frames.{Raw}
use Rattle.amqp_lines.specs.Slots.{property_name}

-- a way to read the front of a text: bytes, and the text after them
abbrev pub Reader : Type 0
Reader = List ℕ → List ℕ × List ℕ

-- what is read next stands after what was read
abbrev pub followed : List ℕ × List ℕ → Reader → List ℕ × List ℕ
followed one next = (one.0 ++ (next one.1).0, (next one.1).1)

-- the first character is this one
abbrev pub first_is : ℕ → List ℕ → Bool
first_is c [] = false
first_is c (d ∷ ds) = d == c

-- ---- numbers

-- the characters `0` to `9`
unfoldable pub is_digit : ℕ → Bool
is_digit c = nat_le 48 c && nat_le c 57

-- digits go on a number, of which 8 bytes are kept
unfoldable pub read_digits : ℕ → List ℕ → ℕ × List ℕ
read_digits n [] = (n, [])
read_digits n (c ∷ cs) =
    if is_digit c then read_digits ((10 * n + (c - 48)) % 2 ^ 64) cs else (n, c ∷ cs)

-- a number below zero, in two's complement of 8 bytes
abbrev pub below_zero : ℕ × List ℕ → ℕ × List ℕ
below_zero n = ((2 ^ 64 - n.0) % 2 ^ 64, n.1)

-- a number with or without a sign; where there is no digit, it is 0
unfoldable pub read_bits : List ℕ → ℕ × List ℕ
read_bits text =
    if first_is 45 text then below_zero (read_digits 0 (drop 1 text)) else read_digits 0 text

-- the last bytes of a number of 8 bytes
abbrev pub last_bytes : ℕ → ℕ → List ℕ
last_bytes count n = drop (8 - count) (number_bytes bytes8 n)

-- so many bytes of a number, the high byte first (section 4.2.5.1); a sign is read for
-- unsigned numbers too
unfoldable pub read_number : ℕ → Reader
read_number count text = (last_bytes count (read_bits text).0, (read_bits text).1)

-- a truth value
unfoldable pub read_truth : Reader
read_truth text = (boolean_bytes (first_is 49 text), drop 1 text)

-- a scale, a character, and a number
unfoldable pub read_decimal : Reader
read_decimal text = followed (read_number 1 text) (λ rest. read_number 4 (drop 1 rest))

-- the byte that has as many signs as flags: the first sign is bit 0 (section 4.2.5.2). What is not
-- `+` is read as `-` is.
unfoldable pub read_signs : ℕ → List ℕ → ℕ × List ℕ
read_signs zero text = (0, text)
read_signs (suc count) text = (
  (bit_of (first_is 43 text) + 2 * (read_signs count (drop 1 text)).0) % 256,
  (read_signs count (drop 1 text)).1,
)

-- as many signs as flags, in one byte
unfoldable pub read_flags : ℕ → Reader
read_flags count text = ((read_signs count text).0 ∷ [], (read_signs count text).1)

-- ---- hex

-- the characters `0` to `9`, and `a` to `f`
unfoldable pub is_hex : ℕ → Bool
is_hex c = is_digit c || (nat_le 97 c && nat_le c 102)

-- what a digit in hex is worth; any other character counts as a number below 16 too
unfoldable pub nibble : ℕ → ℕ
nibble c = (if nat_lt c 58 then c - 48 else c - 87) % 16

-- pairs of characters, as long as the first of a pair is a hex digit; the second is not tested
unfoldable pub read_hex : Reader
read_hex [] = ([], [])
read_hex (a ∷ []) = ([], a ∷ [])
read_hex (a ∷ b ∷ cs) =
    if is_hex a then ((16 * nibble a + nibble b) ∷ (read_hex cs).0, (read_hex cs).1)
    else ([], a ∷ b ∷ cs)

-- ---- things up to a closing character

-- the text ends, or the closing character comes
abbrev pub ends_at : ℕ → List ℕ → Bool
ends_at close [] = true
ends_at close (c ∷ cs) = c == close

-- things up to a closing character, which is passed, so many at most
unfoldable pub listed : Reader → ℕ → ℕ → Reader
listed item close zero text = ([], drop 1 text)
listed item close (suc more) text =
    if ends_at close text then ([], drop 1 text) else followed (item text) (listed item close more)

-- the same after an opening character
unfoldable pub inside : Reader → ℕ → Reader
inside item close text = listed item close (length text) (drop 1 text)

-- a comma, which is passed, or a thing
unfoldable pub or_comma : Reader → Reader
or_comma item text = if first_is 44 text then ([], drop 1 text) else item text

-- a byte of a quoted string: its two digits after a backslash, or itself
unfoldable pub read_escaped : Reader
read_escaped text =
    if first_is 92 text
    then ((16 * nibble (get_or text 1 0) + nibble (get_or text 2 0)) ∷ [], drop 3 text)
    else (take 1 text, drop 1 text)

-- what was read, with its length in front, in so many bytes
abbrev pub framed : ℕ → List ℕ × List ℕ → List ℕ × List ℕ
framed width x = (last_bytes width (length x.0) ++ x.0, x.1)

-- a quoted string with its length in front (section 4.2.5.3); the opening character is
-- passed, whatever it is
unfoldable pub read_string : ℕ → Reader
read_string width text = framed width (inside read_escaped 34 text)

-- ---- values

-- bytes in hex, with a length of four bytes in front
unfoldable pub read_byte_array : Reader
read_byte_array text = framed 4 (read_hex text)

-- a value, or an entry: a key, a character and a value
abbrev pub read_item : Reader → Bool → Reader
read_item value false text = value text
read_item value true text = followed (read_string 1 text) (λ rest. value (drop 1 rest))

-- what closes an array, or a table
abbrev pub closing : Bool → ℕ
closing false = 93
closing true = 125

-- An array, or a table (section 4.2.5.5), with a length of four bytes in front. A comma is passed
-- wherever a value or an entry can begin.
unfoldable pub read_list : Reader → Bool → Reader
read_list value keyed text =
    framed 4 (inside (or_comma (read_item value keyed)) (closing keyed) text)

-- the value after a tag, by how arrays and tables are read
unfoldable pub read_behind : (Bool → Reader) → FieldTag → Reader
read_behind lists tag.Boolean text = read_truth text
read_behind lists tag.ShortShortInt text = read_number 1 text
read_behind lists tag.ShortShortUInt text = read_number 1 text
read_behind lists tag.ShortInt text = read_number 2 text
read_behind lists tag.ShortUInt text = read_number 2 text
read_behind lists tag.LongInt text = read_number 4 text
read_behind lists tag.LongUInt text = read_number 4 text
read_behind lists tag.LongLongInt text = read_number 8 text
read_behind lists tag.Float text = read_number 4 text
read_behind lists tag.Double text = read_number 8 text
read_behind lists tag.DecimalValue text = read_decimal text
read_behind lists tag.LongString text = read_string 4 text
read_behind lists tag.FieldArray text = lists false text
read_behind lists tag.Timestamp text = read_number 8 text
read_behind lists tag.FieldTable text = lists true text
read_behind lists tag.ByteArray text = read_byte_array text
read_behind lists tag.Void text = ([], text)

-- a character is passed, where something follows the tag letter
abbrev pub after_colon : FieldTag → List ℕ → List ℕ
after_colon tag.Void text = text
after_colon t text = drop 1 text

-- the value after a tag letter
abbrev pub read_after : (Bool → Reader) → Option FieldTag → Reader
read_after lists None text = ([], text)
read_after lists (Some t) text = read_behind lists t (after_colon t text)

-- a tag letter and the value after it
unfoldable pub read_tagged : (Bool → Reader) → Reader
read_tagged lists [] = ([], [])
read_tagged lists (c ∷ cs) = followed (c ∷ [], cs) (read_after lists (tag_at c))

-- how arrays and tables are read, where so many more may be nested
unfoldable pub read_lists : ℕ → Bool → Reader
read_lists zero keyed text = ([], text)
read_lists (suc depth_left) keyed text = read_list (read_tagged (read_lists depth_left)) keyed text

-- a tag and its value
unfoldable pub read_value : ℕ → Reader
read_value depth_left = read_tagged (read_lists depth_left)

-- ---- fields

-- the bytes of a field or a property of this form; in the values of a table, tables and arrays
-- may nest 63 deep
unfoldable pub read_form : Form → Reader
read_form (number_form width) text = read_number (byte_count width) text
read_form (flags_form count) text = read_flags count text
read_form short_string_form text = read_string 1 text
read_form long_string_form text = read_string 4 text
read_form table_form text = read_lists (suc inner_depth) true text

-- a word after a space, or the constant of a reserved field, which is not written
unfoldable pub read_slot : Slot → Reader
read_slot (kept_slot form) text = read_form form (drop 1 text)
read_slot (reserved_slot form constant) text = (form_bytes form constant, text)

-- the bytes of fields, one after another
unfoldable pub read_slots : List Slot → Reader
read_slots [] text = ([], text)
read_slots (slot ∷ slots) text = followed (read_slot slot text) (read_slots slots)

-- ---- properties

-- the text after some characters, where it begins with them
abbrev pub strip : List ℕ → List ℕ → Option (List ℕ)
strip [] text = Some text
strip (c ∷ cs) [] = None
strip (c ∷ cs) (d ∷ ds) = if d == c then strip cs ds else None

-- a property, where its name was found, and the others: their mask, their bytes, and the
-- text after them
abbrev pub with_option : Property → (List ℕ → ℕ × (List ℕ × List ℕ))
    → List ℕ → Option (List ℕ) → ℕ × (List ℕ × List ℕ)
with_option p others text None = others text
with_option p others text (Some after) =
    let x = read_form p.form (drop 1 after) in
    ((2 ^ p.bit % 2 ^ 16 + (others x.1).0) % 2 ^ 16, followed x (λ rest. (others rest).1))

-- the properties that are there, each after a space and its name
unfoldable pub read_set : List Property → List ℕ → ℕ × (List ℕ × List ℕ)
read_set [] text = (0, ([], text))
read_set (p ∷ ps) text =
    with_option p (read_set ps) text (strip (property_name p.bit) (drop 1 text))

-- the mask in two bytes, and the properties after it (section 4.2.6.1)
unfoldable pub read_properties : Reader
read_properties text = (
  last_bytes 2 (read_set properties text).0 ++ (read_set properties text).1.0,
  (read_set properties text).1.1,
)

-- ---- lines

-- a number of two bytes after a character
unfoldable pub read_id : List ℕ → ℕ × List ℕ
read_id text = ((read_bits (drop 1 text)).0 % 2 ^ 16, (read_bits (drop 1 text)).1)

-- the fields of a method that is in the table of methods
abbrev pub read_fields : Option (List Slot) → List ℕ → List ℕ
read_fields None text = []
read_fields (Some slots) text = (read_slots slots text).0

-- the ids of a method, and its fields
abbrev pub read_method_of : ℕ → ℕ × List ℕ → List ℕ
read_method_of class id =
    number_bytes bytes2 class
    ++ (number_bytes bytes2 id.0 ++ read_fields (slots_at class id.0) id.1)

unfoldable pub read_method : List ℕ → List ℕ
read_method text = read_method_of (read_id text).0 (read_id (read_id text).1)

-- three numbers of a byte, each after a character
abbrev pub version_slots : List Slot
version_slots =
    kept_slot (number_form bytes1) ∷ kept_slot (number_form bytes1)
    ∷ kept_slot (number_form bytes1) ∷ []

-- the payload of a frame of this kind
unfoldable pub read_payload : AMQPFrameType → List ℕ → List ℕ
read_payload kinds.ProtocolHeader text = (read_slots version_slots text).0
read_payload kinds.Method text = read_method text
read_payload kinds.Header text = (followed (read_slots header_slots text) read_properties).0
read_payload kinds.Body text = (read_hex (drop 2 text)).0
read_payload kinds.Heartbeat text = []

-- The kind of a frame, by the first characters of its line. (`method`, `header`, `proto`, `body`
-- and `beat` are the first words.)
abbrev pub kind_at : List ℕ → AMQPFrameType
kind_at text =
    if first_is 109 text then kinds.Method else (
    if first_is 104 text then kinds.Header else (
    if first_is 112 text then kinds.ProtocolHeader else (
    if first_is 111 (drop 1 text) then kinds.Body else kinds.Heartbeat)))

-- how many characters the first word has
abbrev pub word_size : AMQPFrameType → ℕ
word_size kinds.ProtocolHeader = 5
word_size kinds.Method = 6
word_size kinds.Header = 6
word_size kinds.Body = 4
word_size kinds.Heartbeat = 4

-- the channel; a protocol header has none, and 0 stands where none is named
abbrev pub channel_at : AMQPFrameType → List ℕ → ℕ × List ℕ
channel_at kinds.ProtocolHeader text = (0, text)
channel_at kind text = read_id text

-- a frame of this kind
abbrev pub of_kind : AMQPFrameType → ℕ × List ℕ → Raw
of_kind kind channel =
    record { kind = kind; channel = channel.0; payload = read_payload kind channel.1 }

-- what the words of a line say of a frame
unfoldable pub read_words : List ℕ → Raw
read_words text =
    of_kind (kind_at text) (channel_at (kind_at text) (drop (word_size (kind_at text)) text))

-- ---- what a call appends

-- a number that was read, and the text after it
abbrev pub Finds : ℕ × List ℕ → ℕ → List ℕ → Type 0
Finds read number rest = (number ≡ read.0) × (rest ≡ read.1)

-- What was read is appended, and the text after it is returned. (Where memory runs out,
-- nothing is said.)
abbrev pub Reads : {K : Type 0} → (K → List ℕ) → List ℕ × List ℕ
    → List ℕ → List ℕ → Result K NoMemory → Type 0
Reads view read old new (Ok rest) = (view rest ≡ read.1) × (new ≡ old ++ read.0)
Reads view read old new (Err error) = Unit {0}

-- the same of a mask and bytes
abbrev pub ReadsSet : {K : Type 0} → (K → List ℕ) → ℕ × (List ℕ × List ℕ)
    → List ℕ → List ℕ → Result (ℕ × K) NoMemory → Type 0
ReadsSet view read old new (Ok found) =
    (found.0 ≡ read.0) × (view found.1 ≡ read.1.1) × (new ≡ old ++ read.1.0)
ReadsSet view read old new (Err error) = Unit {0}

-- the payload is appended, and the kind and the channel are returned
abbrev pub ReadsWords : Raw → List ℕ → List ℕ → Result (AMQPFrameType × ℕ) NoMemory → Type 0
ReadsWords raw old new (Ok found) =
    (found.0 ≡ raw.kind) × (found.1 ≡ raw.channel) × (new ≡ old ++ raw.payload)
ReadsWords raw old new (Err error) = Unit {0}

-- the text that is found, if any
abbrev pub FindsText : {K : Type 0} → (K → List ℕ) → Option (List ℕ) → Option K → Type 0
FindsText view text (Some found) = text ≡ Some (view found)
FindsText view text None = text ≡ None
