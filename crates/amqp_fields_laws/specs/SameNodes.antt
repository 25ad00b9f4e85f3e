-- When nodes say the same, each with spans of its own bytes.
use Rattle.amqp_types.specs as types
use Rattle.std.specs.Prelude.{◌≡◌, ◌⊎◌, ℕ, List, [], ◌∷◌, take, drop, true}
use types.Judging.{IsBytes}
use types.Levels.{plain}
use types.Tags.{tag_byte}
use types.declared.tag.FieldTag.TheVariants as tag
use Rattle.amqp_wire.specs.Frames.{Frame}
use Rattle.amqp_wire.specs.Spelling.{Spells}
use Rattle.amqp_fields.specs.declared.node.Node.{Node}
use Rattle.amqp_fields_write.specs.Canonical.{IsTableKind, KeysAscend}
use Rattle.amqp_fields.specs.Meaning.{AreNodesOf}

-- two spans are of the same bytes
abbrev pub IsSameSpan : List ℕ → ℕ → ℕ → List ℕ → ℕ → ℕ → Type 0
IsSameSpan bytes start count others begin number =
    (count ≡ number) × (take count (drop start bytes) ≡ take number (drop begin others))

-- the kind of a table or an array, whose content is what lies inside it
abbrev pub HasInside : ℕ → Type 0
HasInside kind = IsTableKind kind ⊎ (kind ≡ tag_byte tag.FieldArray)

-- Two nodes say the same. The content of a table or an array is compared by what lies inside.
pub record IsSameNode (bytes others : List ℕ) (a b : Node) : Type 0 where
  pub kind_is : a.kind ≡ b.kind
  pub place_is : a.place ≡ b.place
  pub number_is : a.number ≡ b.number
  pub scale_is : a.scale ≡ b.scale
  pub inside_is : a.inside ≡ b.inside
  pub items_are : a.items ≡ b.items
  pub key_is : IsSameSpan bytes a.key_start a.key_length others b.key_start b.key_length
  pub span_is : (HasInside a.kind → ⊥) → IsSameSpan bytes a.start a.length others b.start b.length

-- the items of two lists, of which there are as many, stand in a relation one by one
abbrev pub OneByOne : {A : Type 0} → (A → A → Type 0) → List A → List A → Type 0
OneByOne R [] [] = Unit {0}
OneByOne R [] (y ∷ ys) = ⊥
OneByOne R (x ∷ xs) [] = ⊥
OneByOne R (x ∷ xs) (y ∷ ys) = R x y × OneByOne R xs ys

-- some nodes, one by one
abbrev pub SameNodes : List ℕ → List ℕ → List Node → List Node → Type 0
SameNodes bytes others = OneByOne (IsSameNode bytes others)

-- Nodes of one frame, each read with all that lies inside it, say the same whatever bytes they were
-- read from, where the keys of each table ascend.
abbrev pub OneFrameHasSameNodes : Type 0
OneFrameHasSameNodes =
    (bytes others encoded : List ℕ) (frame : Frame) (nodes more : List Node)
    → IsBytes encoded → Spells plain encoded frame → AreNodesOf true bytes frame nodes
    → AreNodesOf true others frame more → KeysAscend bytes nodes → KeysAscend others more
    → SameNodes bytes others nodes more
