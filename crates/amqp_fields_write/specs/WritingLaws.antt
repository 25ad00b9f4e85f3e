-- Laws of writing.
use Rattle.amqp_fields_write.specs
use Rattle.std.specs.Prelude.{◌≡◌, ◌<◌, ◌^◌, ℕ, List, Ok}
use Rattle.amqp_types.specs.Judging.{IsBytes}
use Rattle.amqp_wire.specs.Canonical.{canon_frames}
use Rattle.amqp_wire.specs.Frames.{Frame}
use Rattle.amqp_fields.specs.declared.head.Head.{Head}
use Rattle.amqp_fields.specs.declared.node.Node.{Node}
use specs.Canonical.{ContentIsCanonical, KeysAscend}
use specs.MadeFrames.{made_frames}
use specs.Meant.{TellFrames}

-- Heads and nodes that are written mean one sequence of frames.
abbrev pub HeadsMeanOne : Type 0
HeadsMeanOne =
    (pool : List ℕ) (nodes : List Node) (heads : List Head)
    (m : ℕ) (bytes : List ℕ) (fs gs : List Frame)
    → IsBytes pool → m < 2 ^ 32 → made_frames pool nodes m 0 heads ≡ Ok bytes
    → TellFrames pool nodes heads fs → TellFrames pool nodes heads gs → fs ≡ gs

-- Where the keys of each table ascend, and content that stands in the pool is canonical, the bytes
-- that are made are the canonical bytes of the frames that are meant.
abbrev pub CanonicalWhereKeysAscend : Type 0
CanonicalWhereKeysAscend =
    (pool : List ℕ) (nodes : List Node) (heads : List Head)
    (m : ℕ) (bytes : List ℕ) (frames : List Frame)
    → IsBytes pool → m < 2 ^ 32 → KeysAscend pool nodes → ContentIsCanonical pool nodes
    → made_frames pool nodes m 0 heads ≡ Ok bytes
    → TellFrames pool nodes heads frames → bytes ≡ canon_frames frames
