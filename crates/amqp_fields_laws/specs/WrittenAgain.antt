-- What was read can be written, and is written again as the same frames.
use Rattle.amqp_fields.specs as reading
use Rattle.std.specs.Prelude.{◌≡◌, ◌<◌, ◌^◌, ◌++◌, ℕ, Bool, List, [], length, Some, Ok}
use Rattle.amqp_types.specs.Levels.{plain}
use Rattle.amqp_types.specs.Judging.{IsBytes}
use Rattle.amqp_wire.specs.Canonical.{canon_frames}
use Rattle.amqp_wire.specs.Frames.{Frame}
use Rattle.amqp_wire.specs.Fronts.{front, place}
use Rattle.amqp_wire.specs.Spelling.{Spells, SpellsFrames}
use reading.declared.head.Head.{Head}
use reading.declared.node.Node.{Node}
use reading.Heads.{SayFrames}
use reading.Laws.{AreInFront}
use reading.Meaning.{AreNodes, AreNodesOf, fields_of}
use Rattle.amqp_fields_write.specs.MadeFrames.{made_frames}
use Rattle.amqp_fields_write.specs.Meant.{TellsField}

-- What was read can be written: the nodes that reading gives of a frame, alone or with all that
-- lies inside them, are fields of this frame where their spans are taken out of what was read.
abbrev pub ReadNodesAreMeant : Type 0
ReadNodesAreMeant =
    (deep : Bool) (pool bytes : List ℕ) (frame : Frame) (nodes : List Node)
    → IsBytes pool → IsBytes bytes → Spells plain bytes frame
    → AreNodesOf deep pool frame nodes → AreNodes (TellsField pool) (fields_of frame) nodes

-- So many frames are in front of the bytes that were read, and the bytes that were made encode
-- them: the canonical bytes of both are the same.
pub record IsWrittenAgain (m k : ℕ) (bytes : List ℕ) (used count : ℕ) (made : List ℕ) : Type 0 where
  pub read : AreInFront m bytes used count
  pub encodes : SpellsFrames plain (Some k) made read.frames
  pub whole : place plain (Some k) made ≡ []
  pub canonical : canon_frames (front plain (Some k) made) ≡ canon_frames read.frames

-- The heads and nodes that say the frames in front of some bytes are written, with these bytes as
-- the pool; other nodes may stand behind in the list.
abbrev pub ReadIsWrittenAgain : Type 0
ReadIsWrittenAgain =
    (m k : ℕ) (deep : Bool) (bytes : List ℕ) (heads : List Head)
    (nodes others : List Node) (used : ℕ) (made : List ℕ)
    → IsBytes bytes → k < 2 ^ 32 → SayFrames m deep bytes 0 0 heads nodes used
    → made_frames bytes (nodes ++ others) k 0 heads ≡ Ok made
    → IsWrittenAgain m k bytes used (length heads) made
