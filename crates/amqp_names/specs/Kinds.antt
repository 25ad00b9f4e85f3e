-- The kinds of fields, numbered as nodes number them.
use Rattle.std.specs.Prelude.{ℕ, List, [], ◌∷◌, ◌++◌, replicate}
use Rattle.amqp_types.specs.Numbers.{bytes1, bytes2, bytes4, bytes8}
use Rattle.amqp_types.specs.Slots.{Form, number_form, flags_form, short_string_form}
use Rattle.amqp_types.specs.Slots.{long_string_form, table_form, Slot, kept_slot, reserved_slot}

-- 1 to 8: a number of 1, 2, 4 or 8 bytes, a flag, a short string, a long string, a table
abbrev pub kind_of : Form → ℕ
kind_of (number_form bytes1) = 1
kind_of (number_form bytes2) = 2
kind_of (number_form bytes4) = 3
kind_of (number_form bytes8) = 4
kind_of (flags_form count) = 5
kind_of short_string_form = 6
kind_of long_string_form = 7
kind_of table_form = 8

-- the kinds of what a form gives, each flag one
abbrev pub kinds_of : Form → List ℕ
kinds_of (number_form width) = kind_of (number_form width) ∷ []
kinds_of (flags_form count) = replicate count (kind_of (flags_form count))
kinds_of short_string_form = kind_of short_string_form ∷ []
kinds_of long_string_form = kind_of long_string_form ∷ []
kinds_of table_form = kind_of table_form ∷ []

-- the same of the fields of a method, without reserved ones
abbrev pub kinds_in : List Slot → List ℕ
kinds_in [] = []
kinds_in (kept_slot form ∷ slots) = kinds_of form ++ kinds_in slots
kinds_in (reserved_slot form constant ∷ slots) = kinds_in slots
