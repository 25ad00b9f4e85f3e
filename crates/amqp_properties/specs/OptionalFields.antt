-- Fields that stand for properties, which are set or not.
use Rattle.std.specs.Prelude.{◌≡◌, Option}
use Rattle.amqp_types.specs.Slots.{Item, Form}
use Rattle.amqp_types.specs.PropertyBytes.{optional_bytes, is_deep_option, is_long_option}
use Rattle.amqp_values.specs.declared.fields.Field.{Field}
use Rattle.amqp_values.specs.Fields.{field_bytes, is_deep_field, is_long_field, IsFieldHeld}
use Rattle.amqp_properties.specs.HeldOptions.{IsHeldOption}

-- the field has the bytes of the property in its form, none where it is not set, is refused exactly
-- where the item is, and holds what it holds
pub record IsOptionalField (field : Field) (form : Form) (option : Option Item) : Type 0 where
  pub spelled : field_bytes field ≡ optional_bytes form option
  pub deep : is_deep_field field ≡ is_deep_option option
  pub long : is_long_field field ≡ is_long_option option
  pub held : IsFieldHeld field → IsHeldOption form option
