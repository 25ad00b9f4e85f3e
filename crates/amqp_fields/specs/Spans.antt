-- Where the spans of nodes lie.
use Rattle.std.specs.Prelude.{◌≡◌, ◌⊎◌, ◌≤◌, ◌+◌, ◌==◌, ◌||◌, ℕ, Bool}
use Rattle.std.specs.Prelude.{true, List, [], ◌∷◌, length, take}
use Rattle.std.specs.List.{AllByRecursion}
use Rattle.amqp_types.specs.Slots.{long_string_form, short_string_form, table_form}
use Rattle.amqp_types.specs.Tags.{tag_byte}
use Rattle.amqp_types.specs.declared.tag.FieldTag.TheVariants as tag
use Rattle.amqp_fields.specs.declared.node.Node.{Node}
use Rattle.amqp_fields.specs.Kinds.{kind_of}
use Rattle.amqp_fields.specs.Meaning.{HasNoKey}

-- a string, a byte array, a table or an array has a span: an empty one too
abbrev pub has_span : ℕ → Bool
has_span kind =
    (kind == kind_of short_string_form) || (kind == kind_of long_string_form)
    || (kind == kind_of table_form) || (kind == tag_byte tag.LongString)
    || (kind == tag_byte tag.ByteArray) || (kind == tag_byte tag.FieldArray)
    || (kind == tag_byte tag.FieldTable)

-- so many bytes from a place on lie between two places
abbrev pub LiesIn : ℕ → ℕ → ℕ → ℕ → Type 0
LiesIn from to start count = (from ≤ start) × (start + count ≤ to)

-- the span of a node, and its key, lie between two places, where it has them
pub record SpansLieIn (from to : ℕ) (node : Node) : Type 0 where
  pub span : has_span node.kind ≡ true → LiesIn from to node.start node.length
  pub key : HasNoKey node ⊎ LiesIn from to node.key_start node.key_length

-- The nodes that lie inside one come after it, and their spans lie in its own.
abbrev pub AreNested : List Node → Type 0
AreNested [] = Unit {0}
AreNested (node ∷ others) =
    (node.inside ≤ length others)
    × AllByRecursion (SpansLieIn node.start (node.start + node.length)) (take node.inside others)
    × AreNested others

-- all spans lie between two places, and those of what lies inside a node in its own
pub record LieIn (from to : ℕ) (nodes : List Node) : Type 0 where
  pub spans : AllByRecursion (SpansLieIn from to) nodes
  pub nested : AreNested nodes
