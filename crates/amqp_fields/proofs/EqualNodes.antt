-- Nodes and heads, and what is read of payloads and frames, are equal exactly where contracts see the same.
use Rattle.std.proofs.Common.{◌≡◌, rules}
use Rattle.std.specs.Bool.{Decides}
use Rattle.amqp_fields.proofs.Names.{Decides-eqb, Node, FramesRead}
use Rattle.amqp_laws.proofs.Deciding.{both}
use Rattle.amqp_fields.specs.contracts.node.NodePartialEq.TheImpl as node
use Rattle.amqp_fields.specs.declared.reading.FieldsRead.{FieldsRead}
use Rattle.amqp_fields.specs.contracts.reading.FieldsReadPartialEq.TheImpl as read
use Rattle.amqp_fields.specs.declared.head.Head.{Head}
use Rattle.amqp_fields.specs.contracts.head.HeadPartialEq.TheImpl as head
use Rattle.amqp_fields.specs.contracts.frames.FramesReadPartialEq.TheImpl as frames
use Rattle.amqp_fields.specs.declared.frames.FramesEnd.{FramesEnd}
use Rattle.amqp_fields.specs.contracts.frames.FramesEndPartialEq.TheImpl as ends

-- the test for equality of nodes holds exactly where they are the same
pub same_node : (a b : Node) → Decides (node.ghosts.eq a b) (a ≡ b)
same_node a b = search rules

-- the test for equality of what was read of payloads holds exactly where it is the same
pub same_read : (a b : FieldsRead) → Decides (read.ghosts.eq a b) (a ≡ b)
same_read a b = search rules

-- the test for equality of heads holds exactly where they are the same
pub same_head : (a b : Head) → Decides (head.ghosts.eq a b) (a ≡ b)
same_head a b = search rules

same_end : (a b : FramesEnd) → Decides (ends.ghosts.eq a b) (a ≡ b)
same_end a b = search rules

SameRead : FramesRead → FramesRead → Type 0
SameRead a b = (a.used ≡ b.used) × ((a.heads ≡ b.heads) × ((a.nodes ≡ b.nodes) × (a.end ≡ b.end)))

read_members : (a b : FramesRead) → Decides (frames.ghosts.eq a b) (SameRead a b)
unfolding SameRead
read_members a b = search (both, Decides-eqb, same_end) depth 6

read_of : (a b : FramesRead) → SameRead a b → a ≡ b
unfolding SameRead
read_of a b h = search rules

read_to : (a b : FramesRead) → a ≡ b → SameRead a b
unfolding SameRead
read_to a b e = search rules

-- the test for equality of what was read of frames holds exactly where it is the same
pub same_frames_read : (a b : FramesRead) → Decides (frames.ghosts.eq a b) (a ≡ b)
same_frames_read a b = (λ h. read_of a b ((read_members a b).0 h), λ e. (read_members a b).1 (read_to a b e))
