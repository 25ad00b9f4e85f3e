-- Laws of nodes.
use Rattle.std.specs.Prelude.{◌≡◌, ◌+◌, ◌++◌, ℕ, Bool, List, length, drop, Some, Ok}
use Rattle.amqp_types.specs.Values.{Entry, FieldValue}
use Rattle.amqp_types.specs.Settling.{last_at, value_at}
use Rattle.amqp_types.specs.Constants.{inner_depth}
use Rattle.amqp_types.specs.ValueJudging.{judge_value}
use Rattle.amqp_fields.specs.declared.node.Node.{Node}
use Rattle.amqp_types.specs.Levels.{plain}
use Rattle.amqp_wire.specs.Frames.{Frame}
use Rattle.amqp_wire.specs.Fronts.{front, place}
use Rattle.amqp_fields.specs.declared.head.Head.{Head}
use Rattle.amqp_fields.specs.Heads.{SayFrames, SaysFrame}
use Rattle.amqp_wire.specs.declared.frame_type.AMQPFrameType.{AMQPFrameType}
use Rattle.amqp_wire.specs.Verdicts.{decode_payload}
use Rattle.amqp_fields.specs.Contents.{entries_in, values_in}
use Rattle.amqp_fields.specs.Listed.{entries_nodes, payload_nodes, values_nodes}
use Rattle.amqp_fields.specs.Meaning.{AreNodes, AreNodesOf, IsSpan, IsTable}
use Rattle.amqp_fields.specs.Meaning.{MeansElement, MeansEntry, MeansValue, TableInside}
use Rattle.amqp_fields.specs.Reading.{fields_nodes}
use Rattle.amqp_fields.specs.Spans.{LieIn}

-- The nodes that are listed are those of what the bytes encode: of the frame of a whole payload,
-- wherever it stands in the bytes in which spans are counted, or of the entries or values that fill
-- some content.
pub record ListedNodesMean : Type 0 where
  pub payload : (deep : Bool) (bytes payload : List ℕ) (start : ℕ)
      (kind : AMQPFrameType) (channel : ℕ) (frame : Frame)
      → IsSpan bytes start (length payload) payload
      → decode_payload kind channel payload ≡ Ok frame
      → AreNodesOf deep bytes frame (payload_nodes kind deep (start + length payload) payload)
  pub entries : (content : List ℕ) (entries : List Entry)
      → entries_in content ≡ Ok entries
      → AreNodes (MeansEntry (MeansValue inner_depth content) content)
      entries (entries_nodes content)
  pub values : (content : List ℕ) (values : List FieldValue)
      → values_in content ≡ Ok values
      → AreNodes (MeansElement (MeansValue inner_depth content)) values (values_nodes content)

-- Of duplicate keys the last one wins: the table that a field holds has at each key the value of
-- the last of the entries that are listed with this key.
abbrev pub LastEntriesWin : Type 0
LastEntriesWin =
    (deep : Bool) (payload : List ℕ) (node : Node) (inside : List Node) (table : List Entry)
    → (listed : IsTable (judge_value inner_depth)
    (TableInside deep payload node inside) payload node table)
    → (key : List ℕ) → value_at key table ≡ last_at key listed.entries

-- All spans of nodes that are listed lie in the bytes that these were read from: of a head in its
-- own payload, and of what lies inside a table or an array in its span.
pub record SpansLieWithin : Type 0 where
  pub frame : (m : ℕ) (deep : Bool) (bytes : List ℕ) (at first size : ℕ)
      (head : Head) (nodes : List Node)
      → SaysFrame m deep bytes at first head nodes size
      → LieIn head.start (head.start + head.length) nodes
  pub fields : (kind : AMQPFrameType) (deep : Bool) (payload : List ℕ)
      → LieIn 0 (length payload) (fields_nodes kind deep payload)
  pub entries : (content : List ℕ) → LieIn 0 (length content) (entries_nodes content)
  pub values : (content : List ℕ) → LieIn 0 (length content) (values_nodes content)

-- So many frames are in front of the bytes, as they are cut from them, and then come those in front
-- of what is left.
pub record AreInFront (m : ℕ) (bytes : List ℕ) (used count : ℕ) : Type 0 where
  pub frames : List Frame
  pub count_is : length frames ≡ count
  pub sequence : front plain (Some m) bytes ≡ frames ++ front plain (Some m) (drop used bytes)
  pub after : place plain (Some m) bytes ≡ place plain (Some m) (drop used bytes)

-- The frames that heads say one after another are in front of the bytes.
abbrev pub HeadsSayTheFront : Type 0
HeadsSayTheFront =
    (m : ℕ) (deep : Bool) (bytes : List ℕ) (heads : List Head) (nodes : List Node) (used : ℕ)
    → SayFrames m deep bytes 0 0 heads nodes used → AreInFront m bytes used (length heads)
