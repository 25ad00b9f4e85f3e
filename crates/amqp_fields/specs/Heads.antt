-- Heads: what is said of a frame among others.
use Rattle.std.specs.Prelude.{◌≡◌, ℕ, ◌+◌, Bool, List, [], ◌∷◌, ◌++◌, length}
use Rattle.std.specs.Prelude.{drop, if◌then◌else◌, Some, Ok}
use Rattle.amqp_types.specs.Levels.{tidy, strict}
use Rattle.amqp_types.specs.Judging.{took}
use Rattle.amqp_wire.specs.declared.outline.FrameOutline.{FrameOutline}
use Rattle.amqp_wire.specs.declared.outline.FrameOutline.TheVariants as outlines
use Rattle.amqp_wire.specs.Frames.{Frame, Raw}
use Rattle.amqp_wire.specs.Looks.{payload_place}
use Rattle.amqp_wire.specs.HeaderScan.{scan}
use Rattle.amqp_wire.specs.Outlines.{outline_of}
use Rattle.amqp_wire.specs.Spelling.{byte_of}
use Rattle.amqp_wire.specs.Verdicts.{is_at, decode_raw}
use Rattle.amqp_fields.specs.declared.node.Node.{Node}
use Rattle.amqp_fields.specs.declared.head.Head.{Head}
use Rattle.amqp_fields.specs.Listed.{payload_nodes}
use Rattle.amqp_fields.specs.Meaning.{IsSpan}

-- a head of zeros
abbrev pub no_head : Head
no_head = record {
  body_size = 0;
  start = 0;
  length = 0;
  first = 0;
  nodes = 0;
  channel = 0;
  class_id = 0;
  method_id = 0;
  frame_type = 0;
  form = 0;
}

-- a payload that is canonical has 1 in its form, and one that is tidy 2
abbrev pub form_of : Bool → Bool → ℕ
form_of canonical is_tidy = (if canonical then 1 else 0) + (if is_tidy then 2 else 0)

-- the class of a method or content header, else 0
abbrev pub class_in : FrameOutline → ℕ
class_in (outlines.Method channel class id) = class
class_in (outlines.Header channel class size) = class
class_in outline = 0

-- the method's id in its class, else 0
abbrev pub method_in : FrameOutline → ℕ
method_in (outlines.Method channel class id) = id
method_in outline = 0

-- the size of the body that a content header announces, else 0
abbrev pub body_size_in : FrameOutline → ℕ
body_size_in (outlines.Header channel class size) = size
body_size_in outline = 0

-- the head of a frame, by where its payload begins, the place of its first node and how
-- many nodes it has
abbrev pub head_of : Raw → FrameOutline → ℕ → ℕ → ℕ → Head
head_of raw outline start first count = record {
  body_size = body_size_in outline;
  start = start;
  length = length raw.payload;
  first = first;
  nodes = count;
  channel = raw.channel;
  class_id = class_in outline;
  method_id = method_in outline;
  frame_type = byte_of raw.kind;
  form = form_of (is_at strict raw) (is_at tidy raw);
}

-- the nodes of a frame whose payload begins at a place
abbrev pub nodes_at : Raw → Bool → ℕ → List Node
nodes_at raw deep start = payload_nodes raw.kind deep (start + length raw.payload) raw.payload

-- A frame of so many bytes stands at a place of the bytes, and the head and the nodes are its own.
-- The first of these is at a place of a list.
pub record SaysFrame (m : ℕ) (deep : Bool) (bytes : List ℕ) (at first : ℕ)
    (head : Head) (nodes : List Node) (size : ℕ) : Type 0 where
  pub raw : Raw
  pub frame : Frame
  pub found : scan (Some m) (drop at bytes) ≡ took raw size
  pub is : decode_raw raw ≡ Ok frame
  pub payload_is : IsSpan bytes head.start head.length raw.payload
  pub head_is : head
      ≡ head_of raw (outline_of frame) (at + payload_place raw.kind) first (length nodes)
  pub nodes_are : nodes ≡ nodes_at raw deep (at + payload_place raw.kind)

-- the first of some heads, with its nodes, and those after it
pub record IsFirst (Says : List Node → ℕ → Type 0) (Rest : ℕ → ℕ → List Node → Type 0)
    (at first : ℕ) (nodes : List Node) : Type 0 where
  pub own : List Node
  pub others : List Node
  pub size : ℕ
  pub nodes_are : nodes ≡ own ++ others
  pub says : Says own size
  pub rest : Rest (at + size) (first + length own) others

-- From a place of the bytes on there stand, one after another, the frames that these heads say, up
-- to another place. These are their nodes, of which the first is at a place of a list.
abbrev pub SayFrames : ℕ → Bool → List ℕ → ℕ → ℕ → List Head → List Node → ℕ → Type 0
SayFrames m deep bytes at first [] nodes end = (nodes ≡ []) × (at ≡ end)
SayFrames m deep bytes at first (head ∷ heads) nodes end =
    IsFirst (SaysFrame m deep bytes at first head)
    (λ next place others. SayFrames m deep bytes next place heads others end) at first nodes
