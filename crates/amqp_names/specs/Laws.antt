-- What laws say of the table of names.
use Rattle.std.specs.Prelude.{◌==◌, ◌&&◌, ◌||◌, ℕ, nat_eq, nat_lt, Bool, true, false, not, List, []}
use Rattle.std.specs.Prelude.{◌∷◌, ◌++◌, length, map, codes}
use Rattle.std.specs.List.{flat_map, list_any}
use Rattle.std.specs.Cmp.Lexicographic.{pointwise}
use Rattle.amqp_types.specs.Rows.{Row, classes}
use Rattle.amqp_turns.specs.Units.{is_opening_id}
use Rattle.amqp_names.specs.declared.naming.Follows.{Follows}
use Rattle.amqp_names.specs.declared.naming.Follows.TheVariants as follows
use Rattle.amqp_names.specs.Naming.{ClassNames, MethodNames}
use Rattle.amqp_names.specs.Kinds.{kinds_in}
use Rattle.amqp_names.specs.Tables.{all_methods}

-- ---- ids and numbers of fields

-- the ids of a method
abbrev pub ids_of : ℕ × MethodNames → ℕ × ℕ
ids_of m = (m.0, m.1.id)

-- how many names of fields it has
abbrev pub named_fields : ℕ × MethodNames → ℕ
named_fields m = length m.1.fields

-- the ids of each method of a class that has fields on the wire, and how many of these are not
-- reserved, each flag one
abbrev rows_in : ℕ × List Row → List ((ℕ × ℕ) × ℕ)
rows_in class = map (λ row. ((class.0, row.0), length (kinds_in row.1))) class.1

-- the same of all classes
abbrev pub all_rows : List ((ℕ × ℕ) × ℕ)
all_rows = flat_map rows_in classes

-- the ids
abbrev pub row_ids : (ℕ × ℕ) × ℕ → ℕ × ℕ
row_ids row = row.0

-- the number of fields
abbrev pub row_count : (ℕ × ℕ) × ℕ → ℕ
row_count row = row.1

-- by class, and then by method
abbrev is_before : ℕ × ℕ → ℕ × ℕ → Bool
is_before a b = nat_lt a.0 b.0 || ((a.0 == b.0) && nat_lt a.1 b.1)

-- each comes before the next, so none comes twice
abbrev pub ascend : List (ℕ × ℕ) → Bool
ascend [] = true
ascend (a ∷ []) = true
ascend (a ∷ b ∷ rest) = is_before a b && ascend (b ∷ rest)

-- ---- what follows a method

-- a content header and bodies
abbrev carries_content : Follows → Bool
carries_content follows.Nothing = false
carries_content follows.Content = true
carries_content follows.Answer = false

-- a method that answers it
abbrev wants_answer : Follows → Bool
wants_answer follows.Nothing = false
wants_answer follows.Content = false
wants_answer follows.Answer = true

-- a method that the table says to carry content
abbrev pub has_content : ℕ × MethodNames → Bool
has_content m = carries_content m.1.follows

-- a method that opens a message on a channel (section 4.2.6)
abbrev pub opens : ℕ × MethodNames → Bool
opens m = is_opening_id m.0 m.1.id

-- a method that the table says to want an answer
abbrev pub has_answer : ℕ × MethodNames → Bool
has_answer m = wants_answer m.1.follows

-- two names
abbrev is_same : List ℕ → List ℕ → Bool
is_same a b = pointwise nat_eq a b

-- a method whose class has a method of its name and `-ok`
abbrev pub has_ok : ℕ × MethodNames → Bool
has_ok m =
    list_any
    (λ other. (other.0 == m.0) && is_same (m.1.name ++ codes "-ok") other.1.name) all_methods

-- ---- names

-- no name comes twice
abbrev pub differ : List (List ℕ) → Bool
differ [] = true
differ (name ∷ names) = not (list_any (is_same name) names) && differ names

-- the name of a class
abbrev pub class_name : ClassNames → List ℕ
class_name c = c.name

-- the names of its methods differ
abbrev pub methods_differ : ClassNames → Bool
methods_differ c = differ (map (λ m. m.name) c.methods)

-- the names of the fields of a method differ
abbrev pub fields_differ : ℕ × MethodNames → Bool
fields_differ m = differ m.1.fields
