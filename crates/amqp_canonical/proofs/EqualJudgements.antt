-- Forms, fields and results of decoding are equal exactly where contracts see the same.
use Rattle.std.proofs.Common.{◌≡◌, rules}
use Rattle.std.specs.Bool.{Decides}
use Rattle.amqp_canonical.specs.declared.shapes.Form.{Form}
use Rattle.amqp_canonical.specs.contracts.shapes.FormPartialEq.TheImpl as form
use Rattle.amqp_canonical.specs.declared.shapes.Slot.{Slot}
use Rattle.amqp_canonical.specs.declared.shapes.Slot.TheVariants as slots
use Rattle.amqp_canonical.specs.Shapes.{AreSameSlots}
use Rattle.amqp_canonical.specs.contracts.shapes.SlotPartialEq.TheImpl as slot
use Rattle.amqp_canonical.specs.declared.slots.Judgement.{Judgement}
use Rattle.amqp_canonical.specs.contracts.slots.JudgementPartialEq.TheImpl as judgement
use Rattle.amqp_canonical.specs.declared.values.ValueJudgement.{ValueJudgement}
use Rattle.amqp_canonical.specs.contracts.values.ValueJudgementPartialEq.TheImpl as value_judgement

-- The test of equal forms is true exactly where contracts see the same.
pub same_form : (a b : Form) → Decides (form.ghosts.eq a b) (a ≡ b)
same_form a b = search rules

-- The test of equal fields is true exactly where both are kept or both reserved, of one form, and with the same constant.
pub same_slot : (a b : Slot) → Decides (slot.ghosts.eq a b) (AreSameSlots a b)
same_slot (slots.Kept a) (slots.Kept b) = search rules
same_slot (slots.Kept a) (slots.Reserved b y) = search rules
same_slot (slots.Reserved a x) (slots.Kept b) = search rules
same_slot (slots.Reserved a x) (slots.Reserved b y) = search rules

-- The test of equal results of decoding fields is true exactly where contracts see the same.
pub same_judgement : (a b : Judgement) → Decides (judgement.ghosts.eq a b) (a ≡ b)
same_judgement a b = search rules

-- The test of equal results of decoding values is true exactly where contracts see the same.
pub same_value_judgement : (a b : ValueJudgement) → Decides (value_judgement.ghosts.eq a b) (a ≡ b)
same_value_judgement a b = search rules
