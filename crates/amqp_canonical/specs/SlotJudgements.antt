-- What decoding fields, methods and content headers without memory returns.
use Rattle.std.specs.Prelude.{◌≡◌, ◌↔◌, ◌+◌, ◌&&◌, ℕ, Bool, List, take, IsTrue, Result, Ok, Err}
use Rattle.amqp_types.specs.Levels.{Level, tidy, strict}
use Rattle.amqp_types.specs.Judging.{Judged, took}
use Rattle.amqp_types.specs.Answers.{Refuses}
use Rattle.amqp_types.specs.Slots.{Item, Form, Slot}
use Rattle.amqp_types.specs.SlotBytes.{slots_bytes}
use Rattle.amqp_types.specs.SlotJudging.{judge_form, judge_dropped, judge_slot, judge_slots}
use Rattle.amqp_types.specs.SlotSpelling.{SpellsForm, SpellsReserved, SpellsSlot, SpellsSlots}
use Rattle.amqp_types.specs.Methods.{Method, judge_payload, payload_bytes}
use Rattle.amqp_types.specs.MethodSpelling.{SpellsPayload}
use Rattle.amqp_types.specs.Properties.{properties}
use Rattle.amqp_types.specs.PropertyJudging.{judge_set}
use Rattle.amqp_types.specs.PropertySpelling.{SpellsSet}
use Rattle.amqp_types.specs.ContentHeaders.{ContentHeader, judge_content_header}
use Rattle.amqp_types.specs.ContentHeaders.{SpellsContentHeader, content_header_bytes}
use Rattle.amqp_types.specs.declared.errors.ParserError.{ParserError}
use Rattle.amqp_canonical.specs.declared.slots.Judgement.{Judgement}
use Rattle.amqp_canonical.specs.Judgements.{MayRefuse}

-- ---- the bytes are the canonical bytes of a thing

-- the bytes are those that are written for fields
abbrev pub AreCanonicalSlots : List Slot → List ℕ → List Item → Type 0
AreCanonicalSlots slots bytes items = bytes ≡ slots_bytes slots items

-- for a method, with both ids
abbrev pub IsCanonicalPayload : List ℕ → Method → Type 0
IsCanonicalPayload bytes m = bytes ≡ payload_bytes m

-- for a content header
abbrev pub IsCanonicalContentHeader : List ℕ → ContentHeader → Type 0
IsCanonicalContentHeader bytes header = bytes ≡ content_header_bytes header

-- ---- what is returned

-- A thing is decoded, and the result says how many bytes it uses and exactly whether they are
-- canonical, and whether they encode it at level tidy.
pub record TakesTidily {A : Type 0} (IsCanonical IsTidy : List ℕ → A → Type 0)
    (judgement : Judgement) (bytes : List ℕ) (judged : Judged A) : Type 0 where
  pub thing : A
  pub is : judged ≡ took thing judgement.used
  pub canonical : IsTrue judgement.canonical ↔ IsCanonical (take judgement.used bytes) thing
  pub tidy : IsTrue judgement.tidy ↔ IsTidy (take judgement.used bytes) thing

-- a thing decoded at the front, or its fault
abbrev pub JudgesTidily : {A : Type 0} → (List ℕ → A → Type 0) → (List ℕ → A → Type 0)
    → List ℕ → Result Judgement ParserError → Judged A → Type 0
JudgesTidily IsCanonical IsTidy bytes (Ok judgement) judged =
    TakesTidily IsCanonical IsTidy judgement bytes judged
JudgesTidily IsCanonical IsTidy bytes (Err error) judged = MayRefuse error × Refuses error judged

-- the same, where canonical bytes are those at level strict
abbrev pub JudgesLevels : {A : Type 0} → (Level → List ℕ → A → Type 0)
    → List ℕ → Result Judgement ParserError → Judged A → Type 0
JudgesLevels Spells bytes result judged =
    JudgesTidily (Spells strict) (Spells tidy) bytes result judged

-- what a form holds, decoded
abbrev pub JudgesForm : Form → List ℕ → Result Judgement ParserError → Type 0
JudgesForm form bytes result =
    JudgesLevels (λ level. SpellsForm level form) bytes result (judge_form form bytes)

-- a reserved field, decoded
abbrev pub JudgesReserved : Form → List Item → List ℕ → Result Judgement ParserError → Type 0
JudgesReserved form constant bytes result =
    JudgesLevels (λ level. SpellsReserved level form constant) bytes result
    (judge_dropped form bytes)

-- a field, decoded
abbrev pub JudgesSlot : Slot → List ℕ → Result Judgement ParserError → Type 0
JudgesSlot slot bytes result =
    JudgesLevels (λ level. SpellsSlot level slot) bytes result (judge_slot slot bytes)

-- the properties whose bits are set in the mask, decoded
abbrev pub JudgesSet : ℕ → List ℕ → Result Judgement ParserError → Type 0
JudgesSet mask bytes result =
    JudgesLevels (λ level. SpellsSet level mask properties) bytes result
    (judge_set mask properties bytes)

-- fields one after another, decoded
abbrev pub JudgesSlots : List Slot → List ℕ → Result Judgement ParserError → Type 0
JudgesSlots slots bytes result =
    JudgesTidily (AreCanonicalSlots slots)
    (SpellsSlots tidy slots) bytes result (judge_slots slots bytes)

-- both ids and the fields of a method, decoded
abbrev pub JudgesPayload : List ℕ → Result Judgement ParserError → Type 0
JudgesPayload bytes result =
    JudgesTidily IsCanonicalPayload (SpellsPayload tidy) bytes result (judge_payload bytes)

-- a content header, decoded
abbrev pub JudgesContentHeader : List ℕ → Result Judgement ParserError → Type 0
JudgesContentHeader bytes result =
    JudgesTidily IsCanonicalContentHeader
    (SpellsContentHeader tidy) bytes result (judge_content_header bytes)

-- what is returned of a thing after others, which use so many bytes
abbrev pub after_others : ℕ → Bool → Bool
    → Result Judgement ParserError → Result Judgement ParserError
after_others at c t (Ok j) =
    Ok (record { used = at + j.used; canonical = c && j.canonical; tidy = t && j.tidy })
after_others at c t (Err error) = Err error
