-- Tables as fields.
use Rattle.std.specs.Prelude.{◌≡◌, List, [], ◌∷◌, ◌++◌, refl}
use Rattle.amqp_types.specs.Values.{Entry}
use Rattle.amqp_types.specs.ValueBytes.{table_bytes}
use Rattle.amqp_types.specs.Slots.{Item, entries_item, table_form, Slot, kept_slot}
use Rattle.amqp_types.specs.SlotBytes.{form_bytes, slots_bytes}

-- a table is put behind its length
pub table_spells : (es : List Entry) (slots : List Slot) (rest : List Item)
    → slots_bytes (kept_slot table_form ∷ slots) (entries_item es ∷ [] ++ rest) ≡ table_bytes es
    ++ slots_bytes slots rest
unfolding slots_bytes form_bytes
table_spells es slots rest = refl
