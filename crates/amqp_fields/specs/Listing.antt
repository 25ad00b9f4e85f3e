-- A list of nodes that is filled as far as it goes, while all of them are counted.
use Rattle.std.specs.Prelude.{◌≡◌, ℕ, ◌+◌, ◌<◌, ◌^◌, List, [], ◌∷◌, length, set}
use Rattle.amqp_fields.specs.declared.node.Node.{Node}

-- the list, and how many nodes were put
pub record Listing : Type 0 where
  pub nodes : List Node
  pub count : ℕ

-- a list and a number of nodes
abbrev pub listing : List Node → ℕ → Listing
listing nodes count = record { nodes = nodes; count = count }

-- one more node; beyond the end of the list it is counted alone
unfoldable pub pushed : Listing → Node → Listing
pushed s node = record { nodes = set s.nodes s.count node; count = s.count + 1 }

-- some more nodes, one after another
abbrev pub pushed_all : Listing → List Node → Listing
pushed_all s [] = s
pushed_all s (node ∷ nodes) = pushed_all (pushed s node) nodes

-- The nodes were put, where all of them can be counted.
abbrev pub Grows : Listing → Listing → List Node → Type 0
Grows old new added = old.count + length added < 2 ^ 32 → new ≡ pushed_all old added
