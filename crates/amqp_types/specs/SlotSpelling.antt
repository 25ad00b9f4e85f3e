-- How fields are encoded, at each level.
use Rattle.std.specs.Prelude.{◌≡◌, ℕ, List, [], ◌∷◌, ◌++◌, map}
use Rattle.amqp_types.specs.Levels.{Level}
use Rattle.amqp_types.specs.Sequences.{SpellsMapped, SpellsBoth}
use Rattle.amqp_types.specs.Numbers.{SpellsNumber}
use Rattle.amqp_types.specs.Flags.{SpellsFlags, FromTidy}
use Rattle.amqp_types.specs.Strings.{SpellsShortString, SpellsLongString}
use Rattle.amqp_types.specs.ValueSpelling.{SpellsFieldTable}
use Rattle.amqp_types.specs.Slots.{Item, number_item, flag_item, text_item, bytes_item}
use Rattle.amqp_types.specs.Slots.{entries_item, Form, number_form, flags_form, short_string_form}
use Rattle.amqp_types.specs.Slots.{long_string_form, table_form, Slot, kept_slot, reserved_slot}

-- the bytes of a form, and the items that it gives; levels differ in flags and in tables alone
abbrev pub SpellsForm : Level → Form → List ℕ → List Item → Type 0
SpellsForm level (number_form width) = SpellsMapped (SpellsNumber width) (λ n. number_item n ∷ [])
SpellsForm level (flags_form count) = SpellsMapped (SpellsFlags level count) (map flag_item)
SpellsForm level short_string_form = SpellsMapped SpellsShortString (λ text. text_item text ∷ [])
SpellsForm level long_string_form = SpellsMapped SpellsLongString (λ bytes. bytes_item bytes ∷ [])
SpellsForm level table_form = SpellsMapped (SpellsFieldTable level) (λ es. entries_item es ∷ [])

-- A reserved field gives nothing. From level tidy on it is encoded as its constant.
pub record SpellsReserved (level : Level) (form : Form)
    (constant : List Item) (bytes : List ℕ) (items : List Item) : Type 0 where
  pub dropped : List Item
  pub spelled : SpellsForm level form bytes dropped
  pub none : items ≡ []
  pub unused : FromTidy level (dropped ≡ constant)

-- the bytes of a field, kept or reserved
abbrev pub SpellsSlot : Level → Slot → List ℕ → List Item → Type 0
SpellsSlot level (kept_slot form) = SpellsForm level form
SpellsSlot level (reserved_slot form constant) = SpellsReserved level form constant

-- fields, one after another
abbrev pub SpellsSlots : Level → List Slot → List ℕ → List Item → Type 0
SpellsSlots level [] bytes items = (bytes ≡ []) × (items ≡ [])
SpellsSlots level (slot ∷ slots) bytes items =
    SpellsBoth (SpellsSlot level slot) (SpellsSlots level slots) (λ xs ys. xs ++ ys) bytes items
