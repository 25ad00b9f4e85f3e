-- The payload of a content header: a class id, a weight, the size of the body, and properties (AMQP
-- 0-9-1, section 4.2.6.1).
use Rattle.std.specs.Prelude.{◌≡◌, ◌<◌, ◌^◌, ℕ, List, [], ◌∷◌, ◌++◌}
use Rattle.std.specs.Prelude.{length, Option, Result, Ok, false}
use Rattle.amqp_types.specs.Levels.{Level}
use Rattle.amqp_types.specs.Judging.{Judge, took}
use Rattle.amqp_types.specs.Sequences.{judge_both, SpellsBoth}
use Rattle.amqp_types.specs.Sizes.{measured}
use Rattle.amqp_types.specs.FormLaws.{IsLawful}
use Rattle.amqp_types.specs.Numbers.{bytes2, bytes8}
use Rattle.amqp_types.specs.Slots.{Item, number_item, number_form, Slot, kept_slot, reserved_slot}
use Rattle.amqp_types.specs.SlotJudging.{judge_slots}
use Rattle.amqp_types.specs.SlotBytes.{slots_bytes}
use Rattle.amqp_types.specs.SlotSpelling.{SpellsSlots}
use Rattle.amqp_types.specs.Properties.{properties}
use Rattle.amqp_types.specs.PropertyJudging.{judge_properties}
use Rattle.amqp_types.specs.PropertyBytes.{properties_bytes, any_deep_option, any_long_option}
use Rattle.amqp_types.specs.PropertySpelling.{SpellsProperties}
use Rattle.amqp_types.specs.PropertyLaws.{AreOptionsHeld}
use Rattle.amqp_types.specs.declared.errors.GenError.{GenError}

-- a class id, the size of the whole body in bytes, and an option for each property, in the order in
-- which they stand
pub record ContentHeader : Type 0 where
  pub class_id : ℕ
  pub body_size : ℕ
  pub options : List (Option Item)

-- What stands in front of the properties. The weight is dropped when it is read, and written as 0.
unfoldable pub header_slots : List Slot
header_slots =
    kept_slot (number_form bytes2) ∷
    reserved_slot (number_form bytes2) (number_item 0 ∷ []) ∷
    kept_slot (number_form bytes8) ∷
    []

-- the items of the fields in front of the properties: the class id and the size of the body, and
-- none for the weight
abbrev pub header_items : ContentHeader → List Item
header_items header = number_item header.class_id ∷ number_item header.body_size ∷ []

-- the header of a class id and a body size, and of properties
abbrev pub header_of_parts : List Item → List (Option Item) → ContentHeader
header_of_parts (number_item class ∷ number_item size ∷ []) set =
    record { class_id = class; body_size = size; options = set }
header_of_parts items set = record { class_id = 0; body_size = 0; options = set }

-- the class id, the weight and the size of the body, and after them the mask and the properties
unfoldable pub judge_content_header : Judge ContentHeader
judge_content_header = judge_both (judge_slots header_slots) judge_properties header_of_parts

-- the fields in front of the properties, and after them the properties, all of them
-- encoded at this level
abbrev pub SpellsContentHeader : Level → List ℕ → ContentHeader → Type 0
SpellsContentHeader level =
    SpellsBoth (SpellsSlots level header_slots) (SpellsProperties level) header_of_parts

-- the canonical bytes
unfoldable pub content_header_bytes : ContentHeader → List ℕ
content_header_bytes header =
    slots_bytes header_slots (header_items header) ++ properties_bytes header.options

-- the size of the canonical bytes, where there are any
unfoldable pub content_header_size : ContentHeader → Result ℕ GenError
content_header_size header =
    measured (any_deep_option header.options)
    (any_long_option header.options) (content_header_bytes header)

-- ---- laws

-- The laws of a form of bytes hold of content headers.
abbrev pub ContentHeadersAreLawful : Type 0
ContentHeadersAreLawful = IsLawful judge_content_header SpellsContentHeader content_header_bytes

-- what is encoded is neither long nor too deep
abbrev pub SpelledContentHeadersAreBounded : Type 0
SpelledContentHeadersAreBounded =
    (level : Level) (bytes : List ℕ) (header : ContentHeader)
    → SpellsContentHeader level bytes header
    → (any_deep_option header.options ≡ false) × (any_long_option header.options ≡ false)

-- what programs hold
pub record IsHeaderHeld (header : ContentHeader) : Type 0 where
  pub class_fits : header.class_id < 2 ^ 16
  pub size_fits : header.body_size < 2 ^ 64
  pub held : AreOptionsHeld properties header.options

-- Canonical bytes of a header that is neither long nor too deep are read back, whatever follows.
abbrev pub HeldContentHeadersAreReadBack : Type 0
HeldContentHeadersAreReadBack =
    (header : ContentHeader) (rest : List ℕ) → IsHeaderHeld header
    → content_header_size header ≡ Ok (length (content_header_bytes header))
    → judge_content_header (content_header_bytes header ++ rest)
    ≡ took header (length (content_header_bytes header))
