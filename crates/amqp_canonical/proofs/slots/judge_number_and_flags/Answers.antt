-- `judge_number_and_flags`: clause `judged`.
use Rattle.std.proofs.Common.{ℕ, Ok, Err, List, [], ◌∷◌, refl, arith}
use Rattle.std.proofs.lemmas.List.{take_rest}
use Rattle.amqp_types.specs.Numbers.{bytes8}
use Rattle.amqp_types.specs.Slots.{Slot, number_form, flags_form, kept_slot}
use Rattle.amqp_laws.proofs.SlotLaws.{slots_lawful}
use Rattle.amqp_canonical.specs.SlotJudgements.{after_others}
use Rattle.amqp_canonical.proofs.Forms.{fields_walk, canonical_of_levels}
use Rattle.amqp_canonical.proofs.Joining.{one_alone}
use Rattle.amqp_canonical.proofs.OneSlot.{err_passed}
use Rattle.amqp_canonical.proofs.slots.judge_number_and_flags.Goals as goal

abbrev number : Slot
number = kept_slot (number_form bytes8)

abbrev flags : ℕ → Slot
flags count = kept_slot (flags_form count)

abbrev both : ℕ → List Slot
both count = number ∷ flags count ∷ []

pub returns-in_err-number-clause-judged : goal.returns-in_err-number-clause-judged
returns-in_err-number-clause-judged c =
    let slots = both c.args.count in
    err_passed _ _ _ _ _ _ c.from_residual.ensures.1
    (fields_walk.stop number (flags c.args.count ∷ []) c.args.i.now c.in_err-number.field-0.0 (c.in_err-number.ensures.judged bytes8 refl))

pub returns-in_err-flags-clause-judged : goal.returns-in_err-flags-clause-judged
returns-in_err-flags-clause-judged c =
    let slots = both c.args.count in
    let a = c.in_ok-number.number in
    err_passed _ _ _ _ _ _ c.from_residual-in_err-flags.ensures.1
    (fields_walk.step number (flags c.args.count ∷ []) c.args.i.now a (Err c.in_err-flags.field-0.0) (c.in_ok-number.ensures.judged bytes8 refl)
    (fields_walk.stop (flags c.args.count) [] _ c.in_err-flags.field-0.0 (rw take_rest at c.in_err-flags.ensures.judged)))

pub returns-clause-judged : goal.returns-clause-judged
returns-clause-judged c =
    let a = c.in_ok-number.number in
    let r = Ok c.in_ok-flags.flags in
    canonical_of_levels (slots_lawful (both c.args.count) refl) c.args.i.now (after_others a.used a.canonical a.tidy r) (λ k. omega (arith, c.type_inv.i k))
    (fields_walk.step number (flags c.args.count ∷ []) c.args.i.now a r (c.in_ok-number.ensures.judged bytes8 refl)
    (one_alone fields_walk (flags c.args.count) _ r (rw take_rest at c.in_ok-flags.ensures.judged)))
