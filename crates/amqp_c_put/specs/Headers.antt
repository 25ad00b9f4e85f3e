-- The property `headers` by what fills the table.
use Rattle.std.specs.Prelude.{◌≡◌, List, [], ◌∷◌, ◌++◌, Option, refl}
use Rattle.amqp_types.specs.Constants.{inner_depth}
use Rattle.amqp_types.specs.Numbers.{bytes4, number_bytes}
use Rattle.amqp_types.specs.SlotBytes.{form_bytes, slots_bytes}
use Rattle.amqp_types.specs.Slots.{Item, entries_item, table_form, Slot, kept_slot}
use Rattle.amqp_types.specs.ValueBytes.{table_bytes}
use Rattle.amqp_entries.specs.Contents.{table_flaw, table_in}
use Rattle.amqp_entries.specs.declared.errors.PutError.{PutError}
use Rattle.amqp_put.specs.declared.headers.MaskedProperties.{MaskedProperties}

-- what the headers give where they are read
abbrev pub headers_item : MaskedProperties → Item
headers_item p = entries_item (table_in inner_depth p.headers.now)

-- why the headers are not put
abbrev pub headers_flaw : MaskedProperties → Option PutError
headers_flaw p = table_flaw inner_depth p.headers.now

-- the law of a table with no entries

-- a table without entries is put as its length
pub no_entries_spell : (slots : List Slot) (rest : List Item)
    → slots_bytes (kept_slot table_form ∷ slots) (entries_item [] ∷ [] ++ rest)
    ≡ number_bytes bytes4 0 ++ slots_bytes slots rest
unfolding slots_bytes form_bytes table_bytes
no_entries_spell slots rest = refl
