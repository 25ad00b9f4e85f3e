-- Fields one after another, decoded at every level.
use Rattle.std.proofs.Common.{◌≡◌, ℕ, List, [], ◌∷◌, ◌++◌, length, Result}
use Rattle.std.proofs.Common.{Ok, Err, refl, sym, ap, ap₂, ◌∙◌}
use Rattle.amqp_types.specs.Levels.{Level, plain, tidy}
use Rattle.amqp_types.specs.Judging.{Judge, took, IsBytes}
use Rattle.amqp_types.specs.Slots.{Item, Form, kept_slot, reserved_slot}
use Rattle.amqp_types.specs.Slots as meant
use Rattle.amqp_types.specs.SlotJudging.{judge_form, judge_dropped, judge_slot, judge_slots}
use Rattle.amqp_types.specs.SlotSpelling.{SpellsForm, SpellsReserved, SpellsSlot, SpellsSlots}
use Rattle.amqp_types.specs.FormLaws.{IsLawful}
use Rattle.amqp_types.specs.declared.errors.ParserError.{ParserError}
use Rattle.amqp_types.proofs.Sequences.{map_taken}
use Rattle.amqp_laws.proofs.SlotForms.{forms_lawful}
use Rattle.amqp_laws.proofs.SlotLaws.{form_is_plain}
use Rattle.amqp_canonical.specs.declared.shapes.Slot.{Slot}
use Rattle.amqp_canonical.specs.declared.slots.Judgement.{Judgement}
use Rattle.amqp_canonical.specs.Shapes.{slot_of, slots_of}
use Rattle.amqp_canonical.specs.SlotJudgements.{JudgesTidily, JudgesLevels}
use Rattle.amqp_canonical.proofs.Refusing.{fails_next}
use Rattle.amqp_canonical.proofs.Children.{decided_as}
use Rattle.amqp_canonical.proofs.Strict.{lawful_strict}
use Rattle.amqp_canonical.proofs.Joining.{IsRead, law_read, both_read, both_judged, IsWalk}

-- ---- what is encoded is decoded

form_read : (form : Form) → IsRead (judge_form form) (λ level. SpellsForm level form)
form_read form = law_read (forms_lawful form)

reserved_read : (form : Form) (constant : List Item) → IsRead (judge_dropped form) (λ level. SpellsReserved level form constant)
unfolding judge_dropped
reserved_read form constant = record {
  read = λ level bytes rest items h.
      map_taken (λ xs. []) (judge_form form) (SpellsForm plain form)
      (forms_lawful form).exact bytes rest h.dropped (form_is_plain level form bytes h.dropped h.spelled)
      ∙ ap (λ xs. took xs (length bytes)) (sym h.none);
}

slot_read : (slot : meant.Slot) → IsRead (judge_slot slot) (λ level. SpellsSlot level slot)
slot_read (kept_slot form) = form_read form
slot_read (reserved_slot form constant) = reserved_read form constant

-- Fields that bytes encode at any level are decoded from them, whatever follows.
pub slots_read : (slots : List meant.Slot) → IsRead (judge_slots slots) (λ level. SpellsSlots level slots)
unfolding judge_slots
slots_read [] = record { read = λ level bytes rest items h. ap₂ (λ a b. took a b) (sym h.1) (sym (ap length h.0)) }
slots_read (slot ∷ slots) = both_read (λ xs ys. xs ++ ys) (slot_read slot) (slots_read slots)

-- ---- fields one after another

-- Fields are decoded one after another.
pub fields_walk : IsWalk judge_slot (λ slot level. SpellsSlot level slot) judge_slots (λ slots level. SpellsSlots level slots)
unfolding judge_slots
fields_walk = record {
  step = λ slot slots bytes j r one others. both_judged (λ xs ys. xs ++ ys) (slot_read slot) (slots_read slots) bytes j r one others;
  stop = λ slot slots bytes e h. fails_next _ _ _ h;
  none = λ bytes. record { thing = []; is = refl; canonical = (λ t. (refl, refl), λ h. refl); tidy = (λ t. (refl, refl), λ h. refl) };
}

-- and so are those that shapes stand for
pub slots_walk : IsWalk (λ (shape : Slot). judge_slot (slot_of shape)) (λ shape level. SpellsSlot level (slot_of shape))
    (λ shapes. judge_slots (slots_of shapes)) (λ shapes level. SpellsSlots level (slots_of shapes))
slots_walk = record {
  step = λ shape shapes. fields_walk.step (slot_of shape) (slots_of shapes);
  stop = λ shape shapes. fields_walk.stop (slot_of shape) (slots_of shapes);
  none = fields_walk.none;
}

-- ---- canonical bytes are the strict encoding

module _ {A : Type 0} {judge : Judge A} {Spells : Level → List ℕ → A → Type 0} {canonical : A → List ℕ} (law : IsLawful judge Spells canonical) where
  -- Of a lawful form, what is said of the strict encoding is said of the canonical bytes.
  pub canonical_of_levels : (bytes : List ℕ) (r : Result Judgement ParserError) → IsBytes bytes
      → JudgesLevels Spells bytes r (judge bytes) → JudgesTidily (λ bs x. bs ≡ canonical x) (Spells tidy) bytes r (judge bytes)
  canonical_of_levels bytes (Ok j) fits h =
      let same = lawful_strict law bytes h.thing j.used fits h.is in
      record { thing = h.thing; is = h.is; canonical = decided_as _ _ _ h.canonical same.1 same.0; tidy = h.tidy }
  canonical_of_levels bytes (Err e) fits h = h

  -- Of a lawful form, what is said of the canonical bytes is said of the strict encoding.
  pub levels_of_canonical : (bytes : List ℕ) (r : Result Judgement ParserError) → IsBytes bytes
      → JudgesTidily (λ bs x. bs ≡ canonical x) (Spells tidy) bytes r (judge bytes) → JudgesLevels Spells bytes r (judge bytes)
  levels_of_canonical bytes (Ok j) fits h =
      let same = lawful_strict law bytes h.thing j.used fits h.is in
      record { thing = h.thing; is = h.is; canonical = decided_as _ _ _ h.canonical same.0 same.1; tidy = h.tidy }
  levels_of_canonical bytes (Err e) fits h = h
