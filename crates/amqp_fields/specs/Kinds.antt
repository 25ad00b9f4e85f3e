-- The kinds of fields.
use Rattle.std.specs.Prelude.{ℕ}
use Rattle.amqp_types.specs.Numbers.{bytes1, bytes2, bytes4, bytes8}
use Rattle.amqp_types.specs.Slots.{Form, number_form, flags_form}
use Rattle.amqp_types.specs.Slots.{short_string_form, long_string_form, table_form}

-- 1 to 8: a number of 1, 2, 4 or 8 bytes, a flag, a short string, a long string, a table
abbrev pub kind_of : Form → ℕ
kind_of (number_form bytes1) = 1
kind_of (number_form bytes2) = 2
kind_of (number_form bytes4) = 3
kind_of (number_form bytes8) = 4
kind_of (flags_form count) = 5
kind_of short_string_form = 6
kind_of long_string_form = 7
kind_of table_form = 8
