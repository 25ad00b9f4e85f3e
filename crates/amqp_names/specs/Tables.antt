-- What the tables of the program stand for, and what stands at an id or a place of them.
use Rattle.std.specs.Prelude.{◌==◌, ℕ, List, map, Option, option_map, option_and_then}
use Rattle.std.specs.List.{find, flat_map}
use Rattle.amqp_types.specs.Rows.{Row, classes, slots_at}
use Rattle.amqp_types.specs.Properties.{Property}
use Rattle.amqp_names.specs.declared.naming.Field.{Field}
use Rattle.amqp_names.specs.declared.naming.Method.{Method}
use Rattle.amqp_names.specs.declared.naming.MethodAt.{MethodAt}
use Rattle.amqp_names.specs.declared.naming.Class.{Class}
use Rattle.amqp_names.specs.Naming.{ClassNames, MethodNames, named_class, named_method}
use Rattle.amqp_names.specs.Names.{class_names}
use Rattle.amqp_names.specs.Kinds.{kind_of, kinds_in}

-- ---- what the program has

-- the name of a field
abbrev pub field_name : Field → List ℕ
field_name f = f.name.now

-- its kind
abbrev pub field_kind : Field → ℕ
field_kind f = f.kind

-- the names of a method and of its fields
abbrev pub method_names : Method → MethodNames
method_names m = named_method m.id m.name.now m.follows (map field_name m.fields.now)

-- the kinds of its fields
abbrev pub method_kinds : Method → List ℕ
method_kinds m = map field_kind m.fields.now

-- the names of a class and of all that it has
abbrev pub class_names_of : Class → ClassNames
class_names_of c = named_class c.id c.name.now (map method_names c.methods.now)

-- the kinds of the fields of each method of a class, by its id
abbrev pub class_kinds : Class → List (ℕ × List ℕ)
class_kinds c = map (λ m. (m.id, method_kinds m)) c.methods.now

-- the same with the id of the class
abbrev pub known_kinds : Class → ℕ × List (ℕ × List ℕ)
known_kinds c = (c.id, class_kinds c)

-- the names of a method and of its fields, with the id of its class
abbrev pub located : MethodAt → ℕ × MethodNames
located m = (m.class_id, method_names m.method)

-- the kinds of the fields of a method, with its id and that of its class
abbrev pub located_kinds : MethodAt → ℕ × (ℕ × List ℕ)
located_kinds m = (m.class_id, (m.method.id, method_kinds m.method))

-- ---- by ids

-- the same kinds, by the fields that the methods of a class have on the wire
abbrev pub row_kinds : List Row → List (ℕ × List ℕ)
row_kinds rows = map (λ row. (row.0, kinds_in row.1)) rows

-- the same with the id of the class
abbrev pub known_rows : ℕ × List Row → ℕ × List (ℕ × List ℕ)
known_rows class = (class.0, row_kinds class.1)

-- the class of an id
abbrev pub class_at : ℕ → Option ClassNames
class_at id = find (λ c. id == c.id) class_names

-- the method of an id in a class
abbrev pub method_in : ℕ → ℕ → Option MethodNames
method_in class id = option_and_then (λ c. find (λ m. id == m.id) c.methods) (class_at class)

-- the kinds of the fields of a method that are not reserved, each flag one
abbrev pub kinds_at : ℕ → ℕ → Option (List ℕ)
kinds_at class id = option_map kinds_in (slots_at class id)

-- the kind of a property
abbrev pub property_kind : Property → ℕ
property_kind p = kind_of p.form

-- ---- by places

-- the methods of a class, each with the id of the class
abbrev pub methods_of : ClassNames → List (ℕ × MethodNames)
methods_of c = map (λ m. (c.id, m)) c.methods

-- all methods, by ascending ids of classes, and of methods in each
abbrev pub all_methods : List (ℕ × MethodNames)
all_methods = flat_map methods_of class_names

-- the same kinds of a class, each with the id of the class
abbrev pub kinds_of : ℕ × List (ℕ × List ℕ) → List (ℕ × (ℕ × List ℕ))
kinds_of class = map (λ m. (class.0, m)) class.1

-- the kinds of the fields of all methods, in the same order, by the fields that they
-- have on the wire
abbrev pub all_kinds : List (ℕ × (ℕ × List ℕ))
all_kinds = flat_map kinds_of (map known_rows classes)
