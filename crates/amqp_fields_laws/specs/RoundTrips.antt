-- What was read is accepted by writing, and what was written is read again as the same nodes.
use Rattle.std.specs.Prelude.{◌≡◌, ◌≤◌, ◌++◌, ℕ, Bool, false, List, length, Ok}
use Rattle.amqp_types.specs.Constants.{body_byte}
use Rattle.amqp_types.specs.Judging.{IsBytes}
use Rattle.amqp_fields.specs.declared.head.Head.{Head}
use Rattle.amqp_fields.specs.declared.node.Node.{Node}
use Rattle.amqp_fields.specs.Heads.{SayFrames}
use Rattle.amqp_fields_write.specs.MadeFrames.{made_frames}
use Rattle.amqp_fields_laws.specs.SameNodes.{IsSameSpan, OneByOne, SameNodes}

-- Heads and nodes are written at a limit, to no more than so many bytes.
pub record IsAccepted (k : ℕ) (pool : List ℕ) (nodes : List Node)
    (heads : List Head) (used : ℕ) : Type 0 where
  pub made : List ℕ
  pub is : made_frames pool nodes k 0 heads ≡ Ok made
  pub few : length made ≤ used

-- Heads and nodes that were read are written, at any limit from that of reading on, to no more
-- bytes than were read. These are the pool, and other nodes may stand behind in the list.
abbrev pub ReadIsAccepted : Type 0
ReadIsAccepted =
    (m k : ℕ) (deep : Bool) (bytes : List ℕ) (heads : List Head)
    (nodes others : List Node) (used : ℕ)
    → IsBytes bytes → m ≤ k → SayFrames m deep bytes 0 0 heads nodes used
    → IsAccepted k bytes (nodes ++ others) heads used

-- the spans of some nodes are of the same bytes, one by one
abbrev pub SameSpans : List ℕ → List ℕ → List Node → List Node → Type 0
SameSpans bytes others =
    OneByOne (λ (a b : Node). IsSameSpan bytes a.start a.length others b.start b.length)

-- Two heads say the same but for where their payloads and nodes stand: a body has the same bytes.
pub record IsSameHead (bytes others : List ℕ) (a b : Head) : Type 0 where
  pub type_is : a.frame_type ≡ b.frame_type
  pub channel_is : a.channel ≡ b.channel
  pub class_is : a.class_id ≡ b.class_id
  pub method_is : a.method_id ≡ b.method_id
  pub body_size_is : a.body_size ≡ b.body_size
  pub nodes_are : a.nodes ≡ b.nodes
  pub body_is : a.frame_type ≡ body_byte
      → IsSameSpan bytes a.start a.length others b.start b.length

-- some heads, one by one
abbrev pub SameHeads : List ℕ → List ℕ → List Head → List Head → Type 0
SameHeads bytes others = OneByOne (IsSameHead bytes others)

-- What was made is read whole: the heads and nodes that reading gives say the same as those from
-- which it was made, and are as many. Where tables were read alone, without their entries, the
-- content of each has the same bytes too.
pub record IsReadAgain (k : ℕ) (deep : Bool) (bytes made : List ℕ)
    (heads : List Head) (nodes : List Node) : Type 0 where
  pub again : List Head
  pub more : List Node
  pub says : SayFrames k deep made 0 0 again more (length made)
  pub count_is : length again ≡ length heads
  pub heads_same : SameHeads bytes made heads again
  pub same : SameNodes bytes made nodes more
  pub spans : deep ≡ false → SameSpans bytes made nodes more

-- Heads and nodes that were read and written are read again as the same but for their places: no
-- order is asked of the keys of tables.
abbrev pub ReadAgainHasSameNodes : Type 0
ReadAgainHasSameNodes =
    (m k : ℕ) (deep : Bool) (bytes : List ℕ) (heads : List Head)
    (nodes others : List Node) (used : ℕ) (made : List ℕ)
    → IsBytes bytes → m ≤ k → SayFrames m deep bytes 0 0 heads nodes used
    → made_frames bytes (nodes ++ others) k 0 heads ≡ Ok made
    → IsReadAgain k deep bytes made heads nodes
