-- What a table of names is made of.
use Prim.Native.String.{String}
use Rattle.std.specs.Prelude.{ℕ, List, codes, map}
use Rattle.amqp_names.specs.declared.naming.Follows.{Follows}

-- a method: its id, its name, what follows it, and the names of its fields that are not reserved,
-- in the order in which they stand, each flag one
pub record MethodNames : Type 0 where
  pub id : ℕ
  pub name : List ℕ
  pub follows : Follows
  pub fields : List (List ℕ)

-- a class: its id, its name and its methods
pub record ClassNames : Type 0 where
  pub id : ℕ
  pub name : List ℕ
  pub methods : List MethodNames

-- a method with these
abbrev pub named_method : ℕ → List ℕ → Follows → List (List ℕ) → MethodNames
named_method id name follows fields =
    record { id = id; name = name; follows = follows; fields = fields }

-- a class with these
abbrev pub named_class : ℕ → List ℕ → List MethodNames → ClassNames
named_class id name methods = record { id = id; name = name; methods = methods }

-- the same by texts
abbrev pub method_row : ℕ → String → Follows → List String → MethodNames
method_row id name follows fields = named_method id (codes name) follows (map codes fields)

-- a class by its text
abbrev pub class_row : ℕ → String → List MethodNames → ClassNames
class_row id name methods = named_class id (codes name) methods
