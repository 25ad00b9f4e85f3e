-- Nodes, and the spans in them.
use Rattle.std.specs.Prelude.{◌≡◌, ◌<◌, ℕ, ◌-◌, List, ◌∷◌, ◌++◌, length, nat_lt, if◌then◌else◌}
use Rattle.amqp_fields.specs.declared.node.Node.{Node}

-- a node of zeros
abbrev pub blank : Node
blank = record {
  number = 0;
  start = 0;
  length = 0;
  key_start = 0;
  inside = 0;
  items = 0;
  key_length = 0;
  kind = 0;
  place = 0;
  scale = 0;
}

-- as 4 bytes hold it, or the greatest number that they hold
abbrev pub cut : ℕ → ℕ
cut n = if nat_lt n 4294967295 then n else 4294967295

-- as a byte holds it, or the greatest number that it holds
abbrev pub cut_byte : ℕ → ℕ
cut_byte n = if nat_lt n 255 then n else 255

-- a node of this number
abbrev pub numbered : Node → ℕ → Node
numbered label n = record label { number = n }

-- a node whose span is some bytes that end at a place
abbrev pub spanned : Node → ℕ → List ℕ → Node
spanned label end content =
    record label { start = end - length content; length = length content }

-- a node that holds so many others, of which these many are its own entries or values
abbrev pub held : Node → ℕ → ℕ → Node
held node inside items = record node { inside = inside; items = items }

-- the span of a key, whose bytes end at a place
abbrev pub keyed : ℕ → List ℕ → Node
keyed end key = record blank { key_start = end - length key; key_length = length key }

-- the first of some nodes, those inside it, and the others
pub record StandsFirst (nodes : List Node) (node : Node) (inside others : List Node) : Type 0 where
  pub nodes_are : nodes ≡ node ∷ (inside ++ others)
  pub inside_is : node.inside ≡ length inside

-- those inside the first node would pass the end
abbrev pub PassesEnd : List Node → Type 0
PassesEnd nodes =
    (node : Node) (others : List Node) → nodes ≡ node ∷ others → length others < node.inside

-- something lies inside the first node, where there is one
abbrev pub NoneAlone : List Node → Type 0
NoneAlone nodes = (node : Node) (others : List Node) → nodes ≡ node ∷ others → 0 < node.inside
