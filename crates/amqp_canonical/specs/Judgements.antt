-- What decoding without memory returns: how many bytes are used, and whether they are canonical.
use Rattle.std.specs.Prelude.{◌≡◌, ◌≢◌, ◌↔◌, ◌⊎◌, ◌<◌, ◌≤◌, ℕ, nat_eq, List, ◌++◌, take, Bool, true}
use Rattle.std.specs.Prelude.{IsTrue, Option, option_map, Result, Ok, Err}
use Rattle.std.specs.declared.cmp.Ordering.TheVariants.{Less}
use Rattle.std.specs.Ordering.{nat_cmp}
use Rattle.std.specs.Cmp.Lexicographic.{slice_cmp}
use Rattle.amqp_types.specs.Booleans.{boolean_bytes}
use Rattle.amqp_types.specs.Strings.{short_string_bytes, with_length}
use Rattle.amqp_types.specs.Values.{FieldValue, Entry, values_of, entries_of}
use Rattle.amqp_types.specs.ValueBytes.{value_bytes, values_bytes, entries_bytes, tagged_bytes}
use Rattle.amqp_types.specs.Settling.{IsRising}
use Rattle.amqp_types.specs.Tags.{tag_at, tag_byte}
use Rattle.amqp_types.specs.Judging.{Judged, Fault, took}
use Rattle.amqp_types.specs.Answers.{Refuses, RefusesWhole}
use Rattle.amqp_types.specs.declared.errors.ParserError.{ParserError}
use Rattle.amqp_types.specs.declared.errors.ParserError.TheVariants as errors
use Rattle.amqp_types.specs.declared.tag.FieldTag.{FieldTag}
use Rattle.amqp_types.specs.declared.tag.FieldTag.TheVariants as tag
use Rattle.amqp_canonical.specs.declared.values.Layout.{Layout}
use Rattle.amqp_canonical.specs.declared.values.Layout.TheVariants as layout
use Rattle.amqp_canonical.specs.declared.values.TagByte.{TagByte}
use Rattle.amqp_canonical.specs.declared.values.ValueJudgement.{ValueJudgement}

-- how what stands after a tag is laid out
abbrev pub layout_at : FieldTag → Layout
layout_at tag.Boolean = layout.OneBoolean
layout_at tag.ShortShortInt = layout.Fixed 1
layout_at tag.ShortShortUInt = layout.Fixed 1
layout_at tag.ShortInt = layout.Fixed 2
layout_at tag.ShortUInt = layout.Fixed 2
layout_at tag.LongInt = layout.Fixed 4
layout_at tag.LongUInt = layout.Fixed 4
layout_at tag.LongLongInt = layout.Fixed 8
layout_at tag.Float = layout.Fixed 4
layout_at tag.Double = layout.Fixed 8
layout_at tag.DecimalValue = layout.Fixed 5
layout_at tag.LongString = layout.Counted
layout_at tag.FieldArray = layout.Values
layout_at tag.Timestamp = layout.Fixed 8
layout_at tag.FieldTable = layout.Entries
layout_at tag.ByteArray = layout.Counted
layout_at tag.Void = layout.Fixed 0

-- what a byte that is decoded as this tag says
abbrev pub read_as : ℕ → FieldTag → TagByte
read_as byte t = record { layout = layout_at t; written = nat_eq (tag_byte t) byte }

-- how what stands after a tag byte is laid out, and whether this is the byte that is written, where
-- the byte is a tag
abbrev pub layout_after_byte : ℕ → Option TagByte
layout_after_byte byte = option_map (read_as byte) (tag_at byte)

-- what has one size takes few bytes
abbrev pub IsShort : Layout → Type 0
IsShort (layout.Fixed n) = n ≤ 8
IsShort other = Unit {0}

-- a key comes before another in the order of their bytes
abbrev pub IsBelow : List ℕ → List ℕ → Type 0
IsBelow key next = slice_cmp nat_cmp key next ≡ Less

-- the key of the entry at a place comes after the previous one, where there is one
abbrev pub IsAbove : ℕ → List ℕ → List ℕ → Bool → Type 0
IsAbove at previous key above =
    ((at ≡ 0) × (above ≡ true)) ⊎ ((0 < at) × (IsTrue above ↔ IsBelow previous key))

-- nothing here takes memory
abbrev pub MayRefuse : ParserError → Type 0
MayRefuse error = error ≢ errors.NoMemory

-- ---- the bytes are the canonical bytes of a thing

-- the bytes are those that are written for a truth value
abbrev pub IsCanonicalBoolean : List ℕ → Bool → Type 0
IsCanonicalBoolean bytes b = bytes ≡ boolean_bytes b

-- for a value, without its tag
abbrev pub IsCanonicalAfterTag : List ℕ → FieldValue → Type 0
IsCanonicalAfterTag bytes v = bytes ≡ value_bytes v

-- for a value, with its tag
abbrev pub IsCanonicalValue : List ℕ → FieldValue → Type 0
IsCanonicalValue bytes v = bytes ≡ tagged_bytes v

-- for values, one after another
abbrev pub AreCanonicalValues : List ℕ → List FieldValue → Type 0
AreCanonicalValues bytes vs = bytes ≡ values_bytes (values_of vs)

-- for entries, one after another, in ascending key order
abbrev pub AreCanonicalEntries : List ℕ → List Entry → Type 0
AreCanonicalEntries bytes es = (bytes ≡ entries_bytes (entries_of es)) × IsRising es

-- for an array, with its length
abbrev pub IsCanonicalArray : List ℕ → List FieldValue → Type 0
IsCanonicalArray bytes vs = bytes ≡ with_length (values_bytes (values_of vs))

-- for a table, with its length
abbrev pub IsCanonicalTable : List ℕ → List Entry → Type 0
IsCanonicalTable bytes es = bytes ≡ with_length (entries_bytes (entries_of es))

-- ---- what is returned

-- A thing is decoded, and the result says how many bytes it uses and exactly whether
-- they are canonical.
pub record DecodesAs {A : Type 0} (IsCanonical : List ℕ → A → Type 0)
    (judgement : ValueJudgement) (bytes : List ℕ) (judged : Judged A) : Type 0 where
  pub thing : A
  pub is : judged ≡ took thing judgement.used
  pub decides : IsTrue judgement.canonical ↔ IsCanonical (take judgement.used bytes) thing

-- a thing decoded at the front, or its fault
abbrev pub Judges : {A : Type 0} → (List ℕ → A → Type 0) → List ℕ
    → Result ValueJudgement ParserError → Judged A → Type 0
Judges IsCanonical bytes (Ok judgement) judged = DecodesAs IsCanonical judgement bytes judged
Judges IsCanonical bytes (Err error) judged = MayRefuse error × Refuses error judged

-- an entry with this key is decoded, and the result says the same of it
pub record DecodesAsEntry (judgement : ValueJudgement)
    (key bytes : List ℕ) (judged : Judged Entry) : Type 0 where
  pub value : FieldValue
  pub is : judged ≡ took (key, value) judgement.used
  pub decides : IsTrue judgement.canonical
      ↔ (take judgement.used bytes ≡ short_string_bytes key ++ tagged_bytes value)

-- an entry decoded at the front, or its fault
abbrev pub JudgesEntry : {K : Type 0} → (K → List ℕ) → List ℕ
    → Result (ValueJudgement × K) ParserError → Judged Entry → Type 0
JudgesEntry view bytes (Ok found) judged = DecodesAsEntry found.0 (view found.1) bytes judged
JudgesEntry view bytes (Err error) judged = MayRefuse error × Refuses error judged

-- a thing fills the bytes, and it is said exactly whether they are canonical
pub record Fills {A : Type 0} (IsCanonical : List ℕ → A → Type 0)
    (canonical : Bool) (bytes : List ℕ) (read : Result A Fault) : Type 0 where
  pub thing : A
  pub is : read ≡ Ok thing
  pub decides : IsTrue canonical ↔ IsCanonical bytes thing

-- all of the bytes decoded, or their fault
abbrev pub JudgesWhole : {A : Type 0} → (List ℕ → A → Type 0)
    → List ℕ → Result Bool ParserError → Result A Fault → Type 0
JudgesWhole IsCanonical bytes (Ok canonical) read = Fills IsCanonical canonical bytes read
JudgesWhole IsCanonical bytes (Err error) read = MayRefuse error × RefusesWhole error read
