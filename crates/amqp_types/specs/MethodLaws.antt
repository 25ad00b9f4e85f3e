-- The laws of the table of methods, and of methods in payloads.
use Rattle.std.specs.Prelude.{◌≡◌, ℕ, ◌^◌, nat_lt, ◌&&◌, Bool, true, false, List}
use Rattle.std.specs.Prelude.{[], ◌∷◌, ◌++◌, length, Some, Ok}
use Rattle.amqp_types.specs.Levels.{Level}
use Rattle.amqp_types.specs.Judging.{took}
use Rattle.amqp_types.specs.FormLaws.{IsLawful}
use Rattle.amqp_types.specs.Slots.{Slot}
use Rattle.amqp_types.specs.SlotJudging.{judge_slots}
use Rattle.amqp_types.specs.SlotBytes.{slots_bytes, any_deep, any_long}
use Rattle.amqp_types.specs.SlotSpelling.{SpellsSlots}
use Rattle.amqp_types.specs.SlotLaws.{are_least, AreSlotsHeld}
use Rattle.amqp_types.specs.Rows.{Row, slots_at}
use Rattle.amqp_types.specs.Methods.{Method, judge_payload, payload_bytes, payload_size}
use Rattle.amqp_types.specs.MethodSpelling.{SpellsPayload}

-- what two bytes hold
abbrev pub is_short : ℕ → Bool
is_short n = nat_lt n (2 ^ 16)

-- two bytes hold the id of each row, and its reserved fields have the least
-- constants of their forms
abbrev pub are_sound_rows : List Row → Bool
are_sound_rows [] = true
are_sound_rows (row ∷ rows) = (is_short row.0 && are_least row.1) && are_sound_rows rows

-- the same of each class
abbrev pub are_sound_classes : List (ℕ × List Row) → Bool
are_sound_classes [] = true
are_sound_classes (class ∷ classes) =
    (is_short class.0 && are_sound_rows class.1) && are_sound_classes classes

-- the fields of each row of the table
abbrev pub RowsAreLawful : Type 0
RowsAreLawful =
    (class id : ℕ) (slots : List Slot) → slots_at class id ≡ Some slots
    → IsLawful (judge_slots slots) (λ level. SpellsSlots level slots) (slots_bytes slots)

-- The laws of a form of bytes hold of the payloads of methods, with both ids in
-- front of the fields.
abbrev pub PayloadsAreLawful : Type 0
PayloadsAreLawful = IsLawful judge_payload SpellsPayload payload_bytes

-- what is encoded is neither long nor too deep
abbrev pub SpelledPayloadsAreBounded : Type 0
SpelledPayloadsAreBounded =
    (level : Level) (bytes : List ℕ) (m : Method) → SpellsPayload level bytes m
    → (any_deep m.items ≡ false) × (any_long m.items ≡ false)

-- Canonical bytes of a method whose items are neither long nor too deep are read back,
-- whatever follows.
abbrev pub HeldPayloadsAreReadBack : Type 0
HeldPayloadsAreReadBack =
    (m : Method) (slots : List Slot) (rest : List ℕ) → slots_at m.class m.id ≡ Some slots
    → AreSlotsHeld slots m.items → payload_size m ≡ Ok (length (payload_bytes m))
    → judge_payload (payload_bytes m ++ rest) ≡ took m (length (payload_bytes m))
