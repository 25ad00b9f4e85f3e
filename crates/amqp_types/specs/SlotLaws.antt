-- The laws of fields and of lists of fields.
use Rattle.std.specs.Prelude.{◌≡◌, ◌≤◌, ◌<◌, ℕ, zero, suc, nat_lt, nat_le, List, [], ◌∷◌, ◌++◌}
use Rattle.std.specs.Prelude.{length, take, drop, Bool, true, false, ◌&&◌, Ok}
use Rattle.std.specs.Str.{IsUtf8}
use Rattle.amqp_types.specs.Levels.{Level}
use Rattle.amqp_types.specs.Judging.{took}
use Rattle.amqp_types.specs.Numbers.{number_limit}
use Rattle.amqp_types.specs.Values.{entries_of}
use Rattle.amqp_types.specs.Settling.{IsRising}
use Rattle.amqp_types.specs.FormLaws.{IsLawful}
use Rattle.amqp_types.specs.ValueLaws.{AllEntriesHeld}
use Rattle.amqp_types.specs.Slots.{Item, number_item, flag_item, text_item, bytes_item}
use Rattle.amqp_types.specs.Slots.{entries_item, Form, number_form, flags_form, short_string_form}
use Rattle.amqp_types.specs.Slots.{long_string_form, table_form, Slot, kept_slot, reserved_slot}
use Rattle.amqp_types.specs.SlotJudging.{judge_form, judge_slots}
use Rattle.amqp_types.specs.SlotBytes.{item_count, form_bytes, slots_bytes}
use Rattle.amqp_types.specs.SlotBytes.{any_deep, any_long, items_size}
use Rattle.amqp_types.specs.SlotSpelling.{SpellsForm, SpellsSlots}

-- as many flags
abbrev pub are_flags : ℕ → List Item → Bool
are_flags zero [] = true
are_flags (suc count) (flag_item flag ∷ items) = are_flags count items
are_flags count items = false

-- a constant that is written in as few bytes as any item of its form
abbrev pub is_least : Form → List Item → Bool
is_least (number_form width) (number_item n ∷ []) = nat_lt n (number_limit width)
is_least (flags_form count) items = nat_le count 8 && are_flags count items
is_least short_string_form (text_item [] ∷ []) = true
is_least long_string_form (bytes_item [] ∷ []) = true
is_least form items = false

-- each reserved field has such a constant
abbrev pub are_least : List Slot → Bool
are_least [] = true
are_least (kept_slot form ∷ slots) = are_least slots
are_least (reserved_slot form constant ∷ slots) = is_least form constant && are_least slots

-- The laws of a form of bytes hold of each form of a field.
abbrev pub FormsAreLawful : Type 0
FormsAreLawful =
    (form : Form) → IsLawful (judge_form form) (λ level. SpellsForm level form) (form_bytes form)

-- The laws hold of fields one after another. Their constants are least, as else the canonical bytes
-- would not be a shortest encoding.
abbrev pub SlotsAreLawful : Type 0
SlotsAreLawful =
    (slots : List Slot) → are_least slots ≡ true
    → IsLawful (judge_slots slots) (λ level. SpellsSlots level slots) (slots_bytes slots)

-- what is encoded is neither long nor too deep
abbrev pub SpelledSlotsAreBounded : Type 0
SpelledSlotsAreBounded =
    (level : Level) (slots : List Slot) (bytes : List ℕ) (items : List Item)
    → SpellsSlots level slots bytes items → (any_deep items ≡ false) × (any_long items ≡ false)

-- ---- what programs hold

-- items that a form is written for: a number within its width, as many flags as it counts and at
-- most 8, a text of at most 255 bytes, any bytes, or a table in ascending key order whose keys and
-- values are held
abbrev pub IsFormHeld : Form → List Item → Type 0
IsFormHeld (number_form width) (number_item n ∷ []) = n < number_limit width
IsFormHeld (flags_form count) items = (count ≤ 8) × (are_flags count items ≡ true)
IsFormHeld short_string_form (text_item text ∷ []) = (length text < 256) × IsUtf8 text
IsFormHeld long_string_form (bytes_item bytes ∷ []) = Unit {0}
IsFormHeld table_form (entries_item es ∷ []) = IsRising es × AllEntriesHeld (entries_of es)
IsFormHeld form items = ⊥

-- the items of the kept fields, one after another, each held in its form, and no others
abbrev pub AreSlotsHeld : List Slot → List Item → Type 0
AreSlotsHeld [] items = items ≡ []
AreSlotsHeld (kept_slot form ∷ slots) items =
    IsFormHeld form (take (item_count form) items)
    × AreSlotsHeld slots (drop (item_count form) items)
AreSlotsHeld (reserved_slot form constant ∷ slots) items = AreSlotsHeld slots items

-- Canonical bytes of items that are neither long nor too deep are read back, whatever follows.
abbrev pub HeldSlotsAreReadBack : Type 0
HeldSlotsAreReadBack =
    (slots : List Slot) (items : List Item) (rest : List ℕ)
    → are_least slots ≡ true → AreSlotsHeld slots items
    → items_size items (slots_bytes slots items) ≡ Ok (length (slots_bytes slots items))
    → judge_slots slots (slots_bytes slots items ++ rest)
    ≡ took items (length (slots_bytes slots items))
