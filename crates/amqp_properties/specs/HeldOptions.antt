-- What programs hold in a property that may be set or not.
use Rattle.std.specs.Prelude.{[], ◌∷◌, Option, Some, None}
use Rattle.amqp_types.specs.Slots.{Item, Form}
use Rattle.amqp_types.specs.SlotLaws.{IsFormHeld}

-- a property that is not set holds nothing; one that is set holds an item that programs
-- hold in its form
abbrev pub IsHeldOption : Form → Option Item → Type 0
IsHeldOption form None = Unit {0}
IsHeldOption form (Some item) = IsFormHeld form (item ∷ [])
