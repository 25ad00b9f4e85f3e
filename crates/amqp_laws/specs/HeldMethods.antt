-- What typed methods hold: a method of the table, with the items of its fields. Its canonical bytes
-- are read back, unless it is too long or too deep.
use Rattle.std.specs.Prelude.{List, Option, Some, None}
use Rattle.amqp_types.specs.Slots.{Item, Slot}
use Rattle.amqp_types.specs.SlotLaws.{AreSlotsHeld}
use Rattle.amqp_types.specs.Rows.{slots_at}
use Rattle.amqp_types.specs.Methods.{Method}

-- there are fields, and those that are not reserved hold the items, one after another, each item
-- one that programs hold in its form
abbrev pub AreHeldIn : Option (List Slot) → List Item → Type 0
AreHeldIn None items = ⊥
AreHeldIn (Some slots) items = AreSlotsHeld slots items

-- The table has a method of both ids, and its fields hold the items.
abbrev pub IsHeldMethod : Method → Type 0
IsHeldMethod m = AreHeldIn (slots_at m.class m.id) m.items
