-- How values are encoded, at each level.
use Rattle.std.specs.Prelude.{◌≡◌, ℕ, zero, suc, ◌<◌, List, [], ◌∷◌, ◌++◌}
use Rattle.amqp_types.specs.Levels.{Level, plain, tidy, strict}
use Rattle.amqp_types.specs.Sequences.{SpellsBoth}
use Rattle.amqp_types.specs.Numbers.{bytes1, bytes4, SpellsNumber}
use Rattle.amqp_types.specs.Signed.{SpellsSigned}
use Rattle.amqp_types.specs.Booleans.{SpellsBoolean}
use Rattle.amqp_types.specs.Strings.{SpellsShortString, SpellsLongString}
use Rattle.amqp_types.specs.Values.{FieldValue, Entry, boolean_value, signed_value}
use Rattle.amqp_types.specs.Values.{unsigned_value, decimal_value, bytes_value, array_value}
use Rattle.amqp_types.specs.Values.{table_value, void_value, items, pairs}
use Rattle.amqp_types.specs.ValueBytes.{signed_width, unsigned_width}
use Rattle.amqp_types.specs.Tags.{SpellsTag, tag_of}
use Rattle.amqp_types.specs.Settling.{IsSettled}
use Rattle.amqp_types.specs.Constants.{max_depth, inner_depth}

-- a list of things, one after another
abbrev pub SpellsEach : {A : Type 0} → (List ℕ → A → Type 0) → List ℕ → List A → Type 0
SpellsEach Spells bytes [] = bytes ≡ []
SpellsEach Spells bytes (x ∷ xs) =
    (here : List ℕ) × (behind : List ℕ) × (bytes ≡ here ++ behind)
    × Spells here x × SpellsEach Spells behind xs

-- a key, and after it its value
abbrev pub SpellsEntry : (List ℕ → FieldValue → Type 0) → List ℕ → Entry → Type 0
SpellsEntry Spells = SpellsBoth SpellsShortString Spells (λ k v. (k, v))

-- a scale, and after it a number
abbrev pub SpellsDecimal : List ℕ → ℕ × ℕ → Type 0
SpellsDecimal = SpellsBoth (SpellsNumber bytes1) (SpellsNumber bytes4) (λ scale n. (scale, n))

-- An array, where `Spells` says how values in it are encoded: the length of what fills it, and the
-- values one after another.
pub record SpellsArray (Spells : List ℕ → FieldValue → Type 0)
    (bytes : List ℕ) (vs : List FieldValue) : Type 0 where
  pub inner : List ℕ
  pub framed : SpellsLongString bytes inner
  pub each : SpellsEach Spells inner vs

-- at level strict alone
abbrev pub IfStrict : Level → Type 0 → Type 0
IfStrict plain Rule = Unit {0}
IfStrict tidy Rule = Unit {0}
IfStrict strict Rule = Rule

-- A table: the length of what fills it, and entries one after another, of which the last one of
-- each key counts. At level strict the entries are the table: each key stands once, in
-- ascending order.
pub record SpellsTable (level : Level) (Spells : List ℕ → FieldValue → Type 0)
    (bytes : List ℕ) (table : List Entry) : Type 0 where
  pub inner : List ℕ
  pub entries : List Entry
  pub framed : SpellsLongString bytes inner
  pub each : SpellsEach (SpellsEntry Spells) inner entries
  pub counts : IsSettled table entries
  pub once : IfStrict level (entries ≡ table)

-- A value without its tag, in which tables and arrays may nest so deep. `Spells` says how values
-- one level deeper are encoded.
abbrev pub SpellsBehind : Level → ℕ → (List ℕ → FieldValue → Type 0) → List ℕ → FieldValue → Type 0
SpellsBehind level depth_left Spells bytes (boolean_value b) = SpellsBoolean level bytes b
SpellsBehind level depth_left Spells bytes (signed_value kind n) =
    SpellsSigned (signed_width kind) bytes n
SpellsBehind level depth_left Spells bytes (unsigned_value kind n) =
    SpellsNumber (unsigned_width kind) bytes n
SpellsBehind level depth_left Spells bytes (decimal_value scale n) = SpellsDecimal bytes (scale, n)
SpellsBehind level depth_left Spells bytes (bytes_value kind content) =
    SpellsLongString bytes content
SpellsBehind level depth_left Spells bytes (array_value vs) =
    (0 < depth_left) × SpellsArray Spells bytes (items vs)
SpellsBehind level depth_left Spells bytes (table_value es) =
    (0 < depth_left) × SpellsTable level Spells bytes (pairs es)
SpellsBehind level depth_left Spells bytes void_value = bytes ≡ []

-- a tag byte, and after it the value
pub record SpellsTagged (level : Level) (Spells : List ℕ → FieldValue → Type 0)
    (bytes : List ℕ) (v : FieldValue) : Type 0 where
  pub byte : ℕ
  pub behind : List ℕ
  pub bytes_are : bytes ≡ byte ∷ behind
  pub tag_is : SpellsTag level byte (tag_of v)
  pub value_is : Spells behind v

-- a tag and its value, in which tables and arrays may nest so deep
unfoldable pub SpellsValue : Level → ℕ → List ℕ → FieldValue → Type 0
SpellsValue level zero = SpellsTagged level (SpellsBehind level 0 (λ _ _. ⊥))
SpellsValue level (suc depth_left) =
    SpellsTagged level (SpellsBehind level (suc depth_left) (SpellsValue level depth_left))

-- ---- at most 64 levels

-- a tag and its value, in which tables and arrays may nest 64 deep
abbrev pub SpellsFieldValue : Level → List ℕ → FieldValue → Type 0
SpellsFieldValue level = SpellsValue level max_depth

-- an array without a tag: it is the first level, and in its values 63 more may be nested
abbrev pub SpellsFieldArray : Level → List ℕ → List FieldValue → Type 0
SpellsFieldArray level = SpellsArray (SpellsValue level inner_depth)

-- a table without a tag: it is the first level, and in its values 63 more may be nested
abbrev pub SpellsFieldTable : Level → List ℕ → List Entry → Type 0
SpellsFieldTable level = SpellsTable level (SpellsValue level inner_depth)
