-- What shapes mean: the fields of methods, and the properties of a message.
use Rattle.std.specs.Prelude.{◌≡◌, ℕ, nat_eq, Bool, true, ◌&&◌, List, [], ◌∷◌, get_or, map}
use Rattle.std.specs.Cmp.Lexicographic.{pointwise}
use Rattle.std.specs.Int.{from_be_bytes}
use Rattle.std.specs.List.{list_all}
use Rattle.amqp_types.specs.Numbers.{bytes1, bytes2, bytes4, bytes8, width_of}
use Rattle.amqp_types.specs.Flags.{flags_from}
use Rattle.amqp_types.specs.Slots.{Item, number_item, flag_item, text_item, bytes_item}
use Rattle.amqp_types.specs.Slots.{entries_item, number_form, flags_form, short_string_form}
use Rattle.amqp_types.specs.Slots.{long_string_form, table_form, kept_slot, reserved_slot}
use Rattle.amqp_types.specs.Slots as meant
use Rattle.amqp_types.specs.SlotBytes.{form_bytes}
use Rattle.amqp_types.specs.SlotLaws.{is_least}
use Rattle.amqp_types.specs.Properties.{Property, property}
use Rattle.amqp_canonical.specs.declared.shapes.Form.{Form}
use Rattle.amqp_canonical.specs.declared.shapes.Form.TheVariants as forms
use Rattle.amqp_canonical.specs.declared.shapes.Slot.{Slot}
use Rattle.amqp_canonical.specs.declared.shapes.Slot.TheVariants as slots

-- how the bytes of a field are encoded
abbrev pub form_of : Form → meant.Form
form_of forms.Octet = number_form bytes1
form_of forms.Short = number_form bytes2
form_of forms.Long = number_form bytes4
form_of forms.LongLong = number_form bytes8
form_of (forms.Flags count) = flags_form count
form_of forms.ShortString = short_string_form
form_of forms.LongString = long_string_form
form_of forms.Table = table_form

-- ---- constants of reserved fields

-- what the bytes of a constant give: a number, flags, or nothing
abbrev pub constant_of : meant.Form → List ℕ → List Item
constant_of (number_form width) bytes = number_item (from_be_bytes (width_of width) bytes) ∷ []
constant_of (flags_form count) bytes = map flag_item (flags_from count 0 (get_or bytes 0 0))
constant_of short_string_form bytes = text_item [] ∷ []
constant_of long_string_form bytes = bytes_item [] ∷ []
constant_of table_form bytes = entries_item [] ∷ []

-- the bytes are the canonical bytes of what they give, which no item of the form is shorter than;
-- so a table is never reserved
abbrev pub is_constant : meant.Form → List ℕ → Bool
is_constant form bytes =
    is_least form (constant_of form bytes)
    && pointwise nat_eq (form_bytes form (constant_of form bytes)) bytes

-- ---- fields

-- the field of a shape
abbrev pub slot_of : Slot → meant.Slot
slot_of (slots.Kept form) = kept_slot (form_of form)
slot_of (slots.Reserved form bytes) =
    reserved_slot (form_of form) (constant_of (form_of form) bytes.now)

-- both are kept or both are reserved, by one form, with the same constant
abbrev pub AreSameSlots : Slot → Slot → Type 0
AreSameSlots (slots.Kept a) (slots.Kept b) = a ≡ b
AreSameSlots (slots.Reserved a x) (slots.Reserved b y) = (a ≡ b) × (x.now ≡ y.now)
AreSameSlots a b = ⊥

-- it is kept, or its bytes are those of a constant of its form
abbrev pub has_constant : Slot → Bool
has_constant (slots.Kept form) = true
has_constant (slots.Reserved form bytes) = is_constant (form_of form) bytes.now

-- the fields of shapes
abbrev pub slots_of : List Slot → List meant.Slot
slots_of shapes = map slot_of shapes

-- each of them is kept or has its constant
abbrev pub have_constants : List Slot → Bool
have_constants shapes = list_all has_constant shapes

-- the property of a bit and a form
abbrev pub property_of : ℕ × Form → Property
property_of p = property p.0 (form_of p.1)
