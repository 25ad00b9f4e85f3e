-- Of what was taken, canonical bytes and the strict encoding are the same.
use Rattle.std.specs.Prelude.{◌≡◌, ◌↔◌, ℕ, List, take, true}
use Rattle.amqp_types.specs.Levels.{Level, strict}
use Rattle.amqp_types.specs.Judging.{Judge, IsBytes, took}
use Rattle.amqp_types.specs.ValueJudging.{judge_value, judge_array, judge_table}
use Rattle.amqp_types.specs.ValueSpelling.{SpellsValue, SpellsArray, SpellsTable}
use Rattle.amqp_types.specs.Slots.{Slot}
use Rattle.amqp_types.specs.SlotJudging.{judge_slots}
use Rattle.amqp_types.specs.SlotSpelling.{SpellsSlots}
use Rattle.amqp_types.specs.SlotLaws.{are_least}
use Rattle.amqp_types.specs.Methods.{judge_payload}
use Rattle.amqp_types.specs.MethodSpelling.{SpellsPayload}
use Rattle.amqp_types.specs.ContentHeaders.{judge_content_header, SpellsContentHeader}
use Rattle.amqp_canonical.specs.Judgements.{IsCanonicalValue, IsCanonicalArray, IsCanonicalTable}
use Rattle.amqp_canonical.specs.SlotJudgements.{AreCanonicalSlots, IsCanonicalPayload}
use Rattle.amqp_canonical.specs.SlotJudgements.{IsCanonicalContentHeader}

-- the bytes that a thing is decoded from are canonical exactly where they encode it at level strict
abbrev pub CanonicalIsStrict : {A : Type 0} → Judge A
    → (Level → List ℕ → A → Type 0) → (List ℕ → A → Type 0) → Type 0
-- the thing is decoded from the first n bytes, and these are the ones that are compared
CanonicalIsStrict {A} judge Spells IsCanonical =
    (bytes : List ℕ) (x : A) (n : ℕ) → IsBytes bytes → judge bytes ≡ took x n
    → IsCanonical (take n bytes) x ↔ Spells strict (take n bytes) x

-- of values, for each number of levels that may nest
abbrev pub CanonicalValuesAreStrict : Type 0
CanonicalValuesAreStrict =
    (depth_left : ℕ)
    → CanonicalIsStrict (judge_value depth_left)
    (λ level. SpellsValue level depth_left) IsCanonicalValue

-- of arrays
abbrev pub CanonicalArraysAreStrict : Type 0
CanonicalArraysAreStrict =
    (depth_left : ℕ)
    → CanonicalIsStrict (judge_array (judge_value depth_left))
    (λ level. SpellsArray (SpellsValue level depth_left)) IsCanonicalArray

-- of tables
abbrev pub CanonicalTablesAreStrict : Type 0
CanonicalTablesAreStrict =
    (depth_left : ℕ)
    → CanonicalIsStrict (judge_table (judge_value depth_left))
    (λ level. SpellsTable level (SpellsValue level depth_left)) IsCanonicalTable

-- of fields, where the constants of reserved ones are the least of their forms
abbrev pub CanonicalSlotsAreStrict : Type 0
CanonicalSlotsAreStrict =
    (slots : List Slot) → are_least slots ≡ true
    → CanonicalIsStrict (judge_slots slots)
    (λ level. SpellsSlots level slots) (AreCanonicalSlots slots)

-- of methods
abbrev pub CanonicalPayloadsAreStrict : Type 0
CanonicalPayloadsAreStrict = CanonicalIsStrict judge_payload SpellsPayload IsCanonicalPayload

-- of content headers
abbrev pub CanonicalContentHeadersAreStrict : Type 0
CanonicalContentHeadersAreStrict =
    CanonicalIsStrict judge_content_header SpellsContentHeader IsCanonicalContentHeader
