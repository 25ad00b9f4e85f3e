-- What calls write of canonical bytes. Where the bytes of a thing stand at the front, its text is
-- appended; where other bytes stand there, or memory runs out, nothing is said.
use Rattle.std.specs.Prelude.{◌≡◌, ℕ, ◌-◌, ◌<◌, Option, List, [], ◌∷◌, ◌++◌, length}
use Rattle.std.specs.Prelude.{map, codes, true, Result, Ok, Err}
use Rattle.std.specs.Fmt.{decimal, signed_decimal}
use Rattle.amqp_types.specs.Levels.{strict}
use Rattle.amqp_types.specs.Judging.{Judged, Judge, took}
use Rattle.amqp_types.specs.Sequences.{judge_map}
use Rattle.amqp_types.specs.Numbers.{NumberWidth, bytes1, bytes2, bytes4, bytes8, judge_number}
use Rattle.amqp_types.specs.Signed.{judge_signed}
use Rattle.amqp_types.specs.Booleans.{judge_boolean}
use Rattle.amqp_types.specs.Strings.{judge_long_string, SpellsShortString}
use Rattle.amqp_types.specs.Flags.{judge_flags}
use Rattle.amqp_types.specs.Values.{FieldValue, Entry}
use Rattle.amqp_types.specs.ValueJudging.{judge_decimal}
use Rattle.amqp_types.specs.ValueSpelling.{SpellsEach, SpellsArray, SpellsTable}
use Rattle.amqp_types.specs.ValueSpelling.{SpellsValue, SpellsFieldTable}
use Rattle.amqp_types.specs.Slots.{Item, Form, number_form, flags_form, short_string_form}
use Rattle.amqp_types.specs.Slots.{long_string_form, table_form, Slot, kept_slot, reserved_slot}
use Rattle.amqp_types.specs.Properties.{Property}
use Rattle.amqp_types.specs.PropertyLaws.{give_one}
use Rattle.amqp_types.specs.PropertySpelling.{SpellsSet}
use Rattle.amqp_types.specs.declared.tag.FieldTag.{FieldTag}
use Rattle.amqp_types.specs.declared.tag.FieldTag.TheVariants as tag
use Rattle.amqp_types.specs.declared.errors.NoMemory.{NoMemory}
use Rattle.amqp_lines.specs.Words.{hex, quoted, parted, signs}
use Rattle.amqp_lines.specs.Values.{truth_text, value_text, table_text}
use Rattle.amqp_lines.specs.Slots.{form_text}

-- ---- what a call writes

-- the text is after what stood there
abbrev pub AppendsText : List ℕ → List ℕ → List ℕ → Result (Unit {0}) NoMemory → Type 0
AppendsText old new text (Ok done) = new ≡ old ++ text
AppendsText old new text (Err error) = Unit {0}

-- the text of what is decoded at the front is appended, and the number of its bytes is returned
abbrev pub Renders : Judged (List ℕ) → List ℕ → List ℕ → Result ℕ NoMemory → Type 0
Renders (took text used) old new (Ok n) = (n ≡ used) × (new ≡ old ++ text)
Renders rendered old new result = Unit {0}

-- the same of what is encoded so at the front
abbrev pub WritesText : {A : Type 0} → (List ℕ → A → Type 0)
    → (A → List ℕ) → List ℕ → List ℕ → List ℕ → Result ℕ NoMemory → Type 0
WritesText {A} Spells text i old new (Ok n) =
    (bytes rest : List ℕ) (x : A) → i ≡ bytes ++ rest
    → Spells bytes x → (n ≡ length bytes) × (new ≡ old ++ text x)
WritesText Spells text i old new (Err error) = Unit {0}

-- the same, where no number is returned
abbrev pub Says : {A : Type 0} → (List ℕ → A → Type 0) → (A → List ℕ)
    → List ℕ → List ℕ → List ℕ → Result (Unit {0}) NoMemory → Type 0
Says {A} Spells text i old new (Ok done) =
    (bytes rest : List ℕ) (x : A) → i ≡ bytes ++ rest → Spells bytes x → new ≡ old ++ text x
Says Spells text i old new (Err error) = Unit {0}

-- the texts of the things that fill some bytes are appended, parted by commas
abbrev pub WritesEach : {A : Type 0} → (List ℕ → A → Type 0) → (A → List ℕ)
    → List ℕ → List ℕ → List ℕ → Result (Unit {0}) NoMemory → Type 0
WritesEach {A} Spells text i old new (Ok done) =
    (xs : List A) → SpellsEach Spells i xs → new ≡ old ++ parted (map text xs)
WritesEach Spells text i old new (Err error) = Unit {0}

-- ---- values

-- a number of this width in two's complement, in decimal
abbrev pub rendered_signed : NumberWidth → Judge (List ℕ)
rendered_signed width = judge_map signed_decimal (judge_signed width)

-- an unsigned number of this width, in decimal
abbrev pub rendered_number : NumberWidth → Judge (List ℕ)
rendered_number width = judge_map decimal (judge_number width)

-- a scale and a number
abbrev pub decimal_text : ℕ × ℕ → List ℕ
decimal_text d = decimal d.0 ++ (codes "/" ++ decimal d.1)

-- values between brackets
unfoldable pub array_text : List FieldValue → List ℕ
array_text vs = codes "[" ++ (parted (map value_text vs) ++ codes "]")

-- a key and its value
unfoldable pub entry_text : Entry → List ℕ
entry_text e = quoted e.0 ++ (codes "=" ++ value_text e.1)

-- a comma where more bytes come
abbrev pub comma_before : List ℕ → List ℕ
comma_before [] = []
comma_before (byte ∷ bytes) = codes ","

-- what is written after a tag, where tables and arrays may nest so deep
unfoldable pub WritesAfter : ℕ → FieldTag → List ℕ → List ℕ → List ℕ → Result ℕ NoMemory → Type 0
WritesAfter room tag.Boolean i old new r = Renders (judge_map truth_text judge_boolean i) old new r
WritesAfter room tag.ShortShortInt i old new r = Renders (rendered_signed bytes1 i) old new r
WritesAfter room tag.ShortShortUInt i old new r = Renders (rendered_number bytes1 i) old new r
WritesAfter room tag.ShortInt i old new r = Renders (rendered_signed bytes2 i) old new r
WritesAfter room tag.ShortUInt i old new r = Renders (rendered_number bytes2 i) old new r
WritesAfter room tag.LongInt i old new r = Renders (rendered_signed bytes4 i) old new r
WritesAfter room tag.LongUInt i old new r = Renders (rendered_number bytes4 i) old new r
WritesAfter room tag.LongLongInt i old new r = Renders (rendered_signed bytes8 i) old new r
WritesAfter room tag.Float i old new r = Renders (rendered_number bytes4 i) old new r
WritesAfter room tag.Double i old new r = Renders (rendered_number bytes8 i) old new r
WritesAfter room tag.DecimalValue i old new r =
    Renders (judge_map decimal_text judge_decimal i) old new r
WritesAfter room tag.LongString i old new r =
    Renders (judge_map quoted judge_long_string i) old new r
WritesAfter room tag.FieldArray i old new r =
    0 < room → WritesText (SpellsArray (SpellsValue strict (room - 1))) array_text i old new r
WritesAfter room tag.Timestamp i old new r = Renders (rendered_number bytes8 i) old new r
WritesAfter room tag.FieldTable i old new r =
    0 < room
    → WritesText (SpellsTable strict (SpellsValue strict (room - 1))) table_text i old new r
WritesAfter room tag.ByteArray i old new r = Renders (judge_map hex judge_long_string i) old new r
WritesAfter room tag.Void i old new r = Renders (took [] 0) old new r

-- ---- fields

-- what is written for a field or a property of this form
unfoldable pub WritesForm : Form → List ℕ → List ℕ → List ℕ → Result ℕ NoMemory → Type 0
WritesForm (number_form width) i old new r = Renders (rendered_number width i) old new r
WritesForm (flags_form count) i old new r =
    Renders (judge_map signs (judge_flags count) i) old new r
WritesForm short_string_form i old new r = WritesText SpellsShortString quoted i old new r
WritesForm long_string_form i old new r = Renders (judge_map quoted judge_long_string i) old new r
WritesForm table_form i old new r = WritesText (SpellsFieldTable strict) table_text i old new r

-- a word with a space in front, or nothing where the field is reserved
abbrev pub slot_text : Slot → List Item → List ℕ
slot_text (kept_slot form) items = codes " " ++ form_text form items
slot_text (reserved_slot form constant) items = []

-- properties of which each gives one item, as each of a message does
abbrev pub SpellsOnes : ℕ → List Property → List ℕ → List (Option Item) → Type 0
SpellsOnes mask ps bytes options = (give_one ps ≡ true) × SpellsSet strict mask ps bytes options
