-- What calls on the table of names return. Where there is nothing of an id or at a place, the name
-- is empty, and so is the list of kinds.
use Rattle.std.specs.Prelude.{ℕ, List, [], length, false, Option, Some, None, option_map}
use Rattle.std.specs.Prelude.{option_and_then, unwrap_or, slice_get}
use Rattle.amqp_types.specs.Properties.{properties}
use Rattle.amqp_names.specs.Naming.{MethodNames}
use Rattle.amqp_names.specs.Names.{property_names}
use Rattle.amqp_names.specs.Laws.{has_answer, has_content}
use Rattle.amqp_names.specs.Tables.{class_at, kinds_at, method_in, property_kind}
use Rattle.amqp_c.specs.declared.names.NamedMethod.{NamedMethod}
use Rattle.amqp_c.specs.Statuses.{bad_argument}

-- what is reported of a method, which has the id of its class in front
abbrev pub named_method : ℕ × MethodNames → NamedMethod
named_method m = record {
  class_id = m.0;
  method_id = m.1.id;
  fields = length m.1.fields;
  carries_content = has_content m;
  wants_answer = has_answer m;
  status = 0;
}

-- the same, or that there is none
abbrev pub named_method_at : Option (ℕ × MethodNames) → NamedMethod
named_method_at None = record {
  class_id = 0;
  method_id = 0;
  fields = 0;
  carries_content = false;
  wants_answer = false;
  status = bad_argument;
}
named_method_at (Some m) = named_method m

-- the kinds of the fields of a method
abbrev pub shape_at : ℕ → ℕ → List ℕ
shape_at class id = unwrap_or (kinds_at class id) []

-- the kind of a property, or 0
abbrev pub property_kind_at : ℕ → ℕ
property_kind_at place = unwrap_or (option_map property_kind (slice_get properties place)) 0

-- the name of a class
abbrev pub class_name_at : ℕ → List ℕ
class_name_at class = unwrap_or (option_map (λ c. c.name) (class_at class)) []

-- the name of a method
abbrev pub method_name_at : ℕ → ℕ → List ℕ
method_name_at class id = unwrap_or (option_map (λ m. m.name) (method_in class id)) []

-- the name of the field at a place
abbrev pub field_name_at : ℕ → ℕ → ℕ → List ℕ
field_name_at class id place =
    unwrap_or (option_and_then (λ m. slice_get m.fields place) (method_in class id)) []

-- the name of the property at a place
abbrev pub property_name_at : ℕ → List ℕ
property_name_at place = unwrap_or (slice_get property_names place) []
