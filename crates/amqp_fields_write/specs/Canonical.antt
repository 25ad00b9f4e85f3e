-- Nodes of which canonical bytes are written: keys ascend, and content that stands in the pool as
-- bytes is canonical.
use Rattle.amqp_types.specs as types
use Rattle.std.specs.Prelude.{◌≡◌, ◌⊎◌, ℕ, List, [], ◌∷◌, ◌++◌, length}
use Rattle.std.specs.Ordering.{nat_cmp}
use Rattle.std.specs.Cmp.Lexicographic.{slice_cmp}
use Rattle.std.specs.List.Sorted.{IsStrictlySortedBy}
use types.Levels.{strict}
use types.Slots.{table_form}
use types.Strings.{with_length}
use types.Tags.{tag_byte}
use types.Values.{Entry, FieldValue}
use types.ValueSpelling.{SpellsFieldArray, SpellsFieldTable}
use types.declared.tag.FieldTag.TheVariants as tag
use Rattle.amqp_fields.specs.declared.node.Node.{Node}
use Rattle.amqp_fields.specs.Kinds.{kind_of}
use Rattle.amqp_wire.specs.Canonical.{canon_frames}
use Rattle.amqp_wire.specs.Frames.{Frame}
use Rattle.amqp_fields.specs.declared.head.Head.{Head}
use Rattle.amqp_fields.specs.Meaning.{AreNodes, IsSpan}
use Rattle.amqp_fields_write.specs.Meant.{TellFrames}

-- it holds of each node and those inside it, wherever they stand among the nodes
abbrev pub EachGroup : (Node → List Node → Type 0) → List Node → Type 0
EachGroup Holds nodes =
    (before : List Node) (node : Node) (inside others : List Node)
    → nodes ≡ before ++ (node ∷ (inside ++ others))
    → node.inside ≡ length inside → Holds node inside

-- the kind of a table: of a field, or of a value
abbrev pub IsTableKind : ℕ → Type 0
IsTableKind kind = (kind ≡ kind_of table_form) ⊎ (kind ≡ tag_byte tag.FieldTable)

-- the key of an entry
abbrev pub HasKey : List ℕ → Node → List Node → List ℕ → Type 0
HasKey pool node inside key = IsSpan pool node.key_start node.key_length key

-- where the node is a table, the keys of its entries ascend by their bytes, so that each
-- key is there once
abbrev pub EntriesAscend : List ℕ → Node → List Node → Type 0
EntriesAscend pool node inside =
    IsTableKind node.kind → (keys : List (List ℕ))
    → AreNodes (HasKey pool) keys inside → IsStrictlySortedBy (slice_cmp nat_cmp) keys

-- the keys of each table ascend, as far as it is given by nodes
abbrev pub KeysAscend : List ℕ → List Node → Type 0
KeysAscend pool nodes = EachGroup (EntriesAscend pool) nodes

-- behind its length the content is the canonical encoding of a table
abbrev pub IsCanonicalTable : List ℕ → Type 0
IsCanonicalTable content =
    (table : List Entry) × SpellsFieldTable strict (with_length content) table

-- the same of an array
abbrev pub IsCanonicalArray : List ℕ → Type 0
IsCanonicalArray content =
    (values : List FieldValue) × SpellsFieldArray strict (with_length content) values

-- the content of a table or an array, where nothing lies inside its node
pub record HasCanonicalContent (pool : List ℕ) (node : Node) (inside : List Node) : Type 0 where
  pub table : IsTableKind node.kind → inside ≡ [] → (content : List ℕ)
      → IsSpan pool node.start node.length content → IsCanonicalTable content
  pub array : node.kind ≡ tag_byte tag.FieldArray → inside ≡ [] → (content : List ℕ)
      → IsSpan pool node.start node.length content → IsCanonicalArray content

-- the content of each table and array is canonical, as far as it stands in the pool as bytes
abbrev pub ContentIsCanonical : List ℕ → List Node → Type 0
ContentIsCanonical pool nodes = EachGroup (HasCanonicalContent pool) nodes

-- Where keys ascend and content is canonical so, these are the canonical bytes of the frames that
-- heads and nodes mean.
abbrev pub AreCanonicalInOrder : List ℕ → List Node → List Head → List ℕ → Type 0
AreCanonicalInOrder pool nodes heads bytes =
    KeysAscend pool nodes → ContentIsCanonical pool nodes → (frames : List Frame)
    → TellFrames pool nodes heads frames → bytes ≡ canon_frames frames
