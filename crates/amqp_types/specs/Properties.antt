-- The 14 properties of a message. A mask says which of them are set, and those stand after it (AMQP
-- 0-9-1, section 4.2.6.1).
use Rattle.std.specs.Prelude.{ℕ, List, [], ◌∷◌}
use Rattle.amqp_types.specs.Numbers.{bytes1, bytes8}
use Rattle.amqp_types.specs.Slots.{Form, number_form, short_string_form, table_form}

-- the bit of a property in the mask, and its form
pub record Property : Type 0 where
  pub bit : ℕ
  pub form : Form

-- the property with this bit of the mask and this form
abbrev pub property : ℕ → Form → Property
property bit form = record { bit = bit; form = form }

-- the last seven: expiration, message id, timestamp, type, user id, application id and cluster id
unfoldable pub later_properties : List Property
later_properties =
    property 8 short_string_form ∷
    property 7 short_string_form ∷
    property 6 (number_form bytes8) ∷
    property 5 short_string_form ∷
    property 4 short_string_form ∷
    property 3 short_string_form ∷
    property 2 short_string_form ∷
    []

-- In the order in which they stand: content type, content encoding, headers, delivery mode,
-- priority, correlation id, address to reply to, and the last seven. No property has bit 1 or 0.
unfoldable pub properties : List Property
properties =
    property 15 short_string_form ∷
    property 14 short_string_form ∷
    property 13 table_form ∷
    property 12 (number_form bytes1) ∷
    property 11 (number_form bytes1) ∷
    property 10 short_string_form ∷
    property 9 short_string_form ∷
    later_properties
