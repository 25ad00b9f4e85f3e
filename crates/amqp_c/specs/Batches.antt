-- What is reported of the frames in front of some bytes, with their heads and nodes.
use Rattle.std.specs.Prelude.{◌≡◌, ◌<◌, ◌≤◌, ℕ, ◌+◌, ◌*◌, ◌^◌, Bool, List, length}
use Rattle.std.specs.Prelude.{take, drop, Option, Some, None, Ok}
use Rattle.amqp_types.specs.Judging.{Judged, took, past, fault, too_large}
use Rattle.amqp_types.specs.Levels.{plain}
use Rattle.amqp_wire.specs.Frames.{Frame, Raw}
use Rattle.amqp_wire.specs.Looks.{payload_place}
use Rattle.amqp_wire.specs.HeaderScan.{scan}
use Rattle.amqp_wire.specs.Verdicts.{judge_frame, decode_raw}
use Rattle.amqp_stream.specs.Errors.{stream_error_status}
use Rattle.amqp_fields.specs.declared.frames.FramesEnd.{FramesEnd}
use Rattle.amqp_fields.specs.declared.frames.FramesEnd.TheVariants as ends
use Rattle.amqp_fields.specs.declared.frames.FramesRead.{FramesRead}
use Rattle.amqp_fields.specs.declared.head.Head.{Head}
use Rattle.amqp_fields.specs.declared.node.Node.{Node}
use Rattle.amqp_fields.specs.Frames.{in_reach, least_length, payload_limit}
use Rattle.amqp_fields.specs.Heads.{SayFrames, nodes_at}
use Rattle.amqp_c.specs.declared.frames.FrameBatch.{FrameBatch}
use Rattle.amqp_c.specs.Scans.{fault_status}
use Rattle.amqp_c.specs.Statuses.{bad_argument, buffer_too_small, cut_short, decoding_error}

-- no frame is given, for this reason
abbrev pub no_batch : ℕ → FrameBatch
no_batch status = record { used = 0; needed = 0; heads = 0; nodes = 0; status = status; unused = 0 }

-- what comes after the frames, by its status, and how much is needed
abbrev pub IsFollowedBy : FrameBatch → ℕ → ℕ → Type 0
IsFollowedBy batch status needed = (batch.status ≡ status) × (batch.needed ≡ needed)

-- The next frame has so many nodes as are needed, at most one a byte. Where the list of heads has
-- room for it, that of nodes has not.
pub record HasNoRoom (m : ℕ) (deep : Bool) (bytes : List ℕ) (frame : Frame)
    (size head_room node_room : ℕ) (batch : FrameBatch) : Type 0 where
  pub raw : Raw
  pub found : scan (Some m) (drop batch.used bytes) ≡ took raw size
  pub is : decode_raw raw ≡ Ok frame
  pub follows : IsFollowedBy batch buffer_too_small
      (length (nodes_at raw deep (batch.used + payload_place raw.kind)))
  pub few : batch.needed ≤ size
  pub no_room : batch.heads < head_room → node_room < batch.nodes + batch.needed

-- what comes after the frames, by the verdict on what is left
abbrev pub Follows : ℕ → Bool → List ℕ → List Head
    → List Node → FrameBatch → Judged Frame → Type 0
Follows m deep bytes heads nodes batch (took frame size) =
    HasNoRoom m deep (in_reach bytes) frame size (length heads) (length nodes) batch
Follows m deep bytes heads nodes batch past =
    (batch.used ≡ length bytes → IsFollowedBy batch 0 0)
    × (batch.used < length bytes
    → IsFollowedBy batch cut_short (least_length (drop batch.used (in_reach bytes))))
Follows m deep bytes heads nodes batch (fault bad) = IsFollowedBy batch (fault_status bad) 0

-- So many heads and nodes in front of their lists say the frames in front of the bytes. Each frame
-- has eight bytes at least, and at most as many nodes as bytes.
pub record GivesFrames (m : ℕ) (deep : Bool) (bytes : List ℕ)
    (heads : List Head) (nodes : List Node) (batch : FrameBatch) : Type 0 where
  pub within : batch.used ≤ length bytes
  pub heads_fit : batch.heads ≤ length heads
  pub nodes_fit : batch.nodes ≤ length nodes
  pub frames : SayFrames m deep (in_reach bytes) 0 0
      (take batch.heads heads) (take batch.nodes nodes) batch.used
  pub few_heads : 8 * batch.heads ≤ batch.used
  pub few_nodes : batch.nodes ≤ batch.used
  pub follows : Follows m deep bytes heads nodes batch
      (judge_frame plain (Some m) (drop batch.used (in_reach bytes)))
  pub unused : batch.unused ≡ 0

-- the same with what is asked for; a number that asks for nothing comes first
abbrev pub GivesAsked : ℕ → Option Bool → List ℕ → List Head → List Node → FrameBatch → Type 0
GivesAsked m (Some deep) bytes heads nodes batch =
    GivesFrames (payload_limit m) deep bytes heads nodes batch
GivesAsked m None bytes heads nodes batch = batch ≡ no_batch bad_argument

-- ---- as it is reported

-- the status of what comes after the frames
abbrev pub end_status : FramesEnd → ℕ
end_status ends.Done = 0
end_status (ends.Incomplete needed) = cut_short
end_status ends.TooLarge = fault_status too_large
end_status (ends.Fault error) = stream_error_status (decoding_error error)
end_status (ends.Full needed) = buffer_too_small

-- how much is needed
abbrev pub end_needed : FramesEnd → ℕ
end_needed (ends.Incomplete needed) = needed
end_needed (ends.Full needed) = needed
end_needed end = 0

-- what is reported of frames that were read
abbrev pub batch_of : FramesRead → FrameBatch
batch_of read = record {
  used = read.used;
  needed = end_needed read.end;
  heads = read.heads;
  nodes = read.nodes;
  status = end_status read.end;
  unused = 0;
}

-- both counts fit four bytes
abbrev pub AreFew : FramesRead → Type 0
AreFew read = (read.heads < 2 ^ 32) × (read.nodes < 2 ^ 32)
