-- How methods are encoded, at each level (AMQP 0-9-1, section 4.2.4).
use Rattle.std.specs.Prelude.{◌≡◌, ℕ, List, ◌++◌, Some}
use Rattle.amqp_types.specs.Levels.{Level}
use Rattle.amqp_types.specs.Numbers.{bytes2, SpellsNumber}
use Rattle.amqp_types.specs.Slots.{Slot}
use Rattle.amqp_types.specs.SlotSpelling.{SpellsSlots}
use Rattle.amqp_types.specs.Rows.{slots_at}
use Rattle.amqp_types.specs.Methods.{Method}

-- The bytes are a class id, a method id and the fields that the table has for them.
pub record SpellsPayload (level : Level) (bytes : List ℕ) (m : Method) : Type 0 where
  pub slots : List Slot
  pub class_bytes : List ℕ
  pub id_bytes : List ℕ
  pub slot_bytes : List ℕ
  pub known : slots_at m.class m.id ≡ Some slots
  pub bytes_are : bytes ≡ class_bytes ++ (id_bytes ++ slot_bytes)
  pub class_is : SpellsNumber bytes2 class_bytes m.class
  pub id_is : SpellsNumber bytes2 id_bytes m.id
  pub slots_are : SpellsSlots level slots slot_bytes m.items
