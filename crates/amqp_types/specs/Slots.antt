-- The fields of methods, in the order in which they stand (AMQP 0-9-1, section 4.2.5).
use Rattle.std.specs.Prelude.{ℕ, Bool, List}
use Rattle.amqp_types.specs.Numbers.{NumberWidth}
use Rattle.amqp_types.specs.Values.{Entry}

-- what fields give
pub data Item : Type 0 where
  number_item : ℕ → Item
  flag_item : Bool → Item
  text_item : List ℕ → Item
  bytes_item : List ℕ → Item
  entries_item : List Entry → Item

-- how a field is encoded: a number, as many flags in one byte, a short string, a long
-- string or a table
pub data Form : Type 0 where
  number_form : NumberWidth → Form
  flags_form : ℕ → Form
  short_string_form : Form
  long_string_form : Form
  table_form : Form

-- A field that is kept gives its items. One that is reserved is read and dropped, and written
-- as these items.
pub data Slot : Type 0 where
  kept_slot : Form → Slot
  reserved_slot : Form → List Item → Slot
