-- A method that is held has fields in the table, and its items are held in them.
use Rattle.std.proofs.Common.{◌≡◌, List, refl}
use Rattle.std.specs.Prelude.{Option, Some, None}
use Rattle.amqp_types.specs.Slots.{Slot}
use Rattle.amqp_types.specs.SlotLaws.{AreSlotsHeld}
use Rattle.amqp_types.specs.Rows.{slots_at}
use Rattle.amqp_types.specs.Methods.{Method}
use Rattle.amqp_laws.specs.HeldMethods.{AreHeldIn, IsHeldMethod}

pub record HeldFields (m : Method) : Type 0 where
  pub slots : List Slot
  pub known : slots_at m.class m.id ≡ Some slots
  pub held : AreSlotsHeld slots m.items

-- A method that is held has fields in the table, and its items are held in them.
pub held_fields : (m : Method) → IsHeldMethod m → HeldFields m
held_fields m h = by_slots (slots_at m.class m.id) refl h
  where
    by_slots : (found : Option (List Slot)) → slots_at m.class m.id ≡ found → AreHeldIn found m.items → HeldFields m
    by_slots None is h = absurd h
    by_slots (Some slots) is h = record { slots = slots; known = is; held = h }
