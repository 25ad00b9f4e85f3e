-- What reading the frames in front of some bytes returns.
use Rattle.std.specs.Prelude.{◌≡◌, ◌==◌, ℕ, ◌+◌, ◌*◌, ◌<◌, ◌≤◌, nat_lt, Bool, List, [], ◌∷◌, length}
use Rattle.std.specs.Prelude.{take, drop, if◌then◌else◌, Some, Ok}
use Rattle.amqp_types.specs.Answers.{Refuses}
use Rattle.amqp_types.specs.Constants.{protocol_byte}
use Rattle.amqp_types.specs.Judging.{Judged, took, past, fault, too_large}
use Rattle.amqp_types.specs.Levels.{plain}
use Rattle.amqp_types.specs.declared.errors.ParserError.{ParserError}
use Rattle.amqp_types.specs.declared.errors.ParserError.TheVariants as errors
use Rattle.amqp_wire.specs.Frames.{Frame, Raw}
use Rattle.amqp_wire.specs.Looks.{payload_place}
use Rattle.amqp_wire.specs.HeaderScan.{scan, payload_length}
use Rattle.amqp_wire.specs.Verdicts.{judge_frame, decode_raw}
use Rattle.amqp_fields.specs.declared.node.Node.{Node}
use Rattle.amqp_fields.specs.declared.head.Head.{Head}
use Rattle.amqp_fields.specs.declared.frames.FramesRead.{FramesRead}
use Rattle.amqp_fields.specs.declared.frames.FramesEnd.{FramesEnd}
use Rattle.amqp_fields.specs.declared.frames.FramesEnd.TheVariants as ends
use Rattle.amqp_fields.specs.Heads.{SayFrames, nodes_at}

-- the bytes that are looked at: so many in front that each place in them is written in four bytes
abbrev pub in_reach : List ℕ → List ℕ
in_reach bytes = take 4294967295 bytes

-- The most bytes of a payload that are read: no more than the limit, and so few that a frame has no
-- more bytes than are looked at. One that is longer is too large, and not cut short.
abbrev pub payload_limit : ℕ → ℕ
payload_limit m = if nat_lt m 4294967287 then m else 4294967287

-- How many bytes a frame has at least of which these come after the type: channel, length, payload
-- and the end byte are 7 beside the payload (AMQP 0-9-1, section 4.2.3). Until its length is there,
-- the payload may be empty.
abbrev pub least_after : List ℕ → ℕ
least_after rest = if nat_lt (length rest) 6 then 8 else payload_length rest + 8

-- how many bytes a frame that begins so has at least; a protocol header has 8 (AMQP
-- 0-9-1, section 4.2.2)
abbrev pub least_length : List ℕ → ℕ
least_length [] = 8
least_length (byte ∷ rest) = if byte == protocol_byte then 8 else least_after rest

-- the error says why nothing is decoded, which is no want of bytes or memory
abbrev pub SaysFault : {A : Type 0} → ParserError → Judged A → Type 0
SaysFault errors.Incomplete judged = ⊥
SaysFault errors.NoMemory judged = ⊥
SaysFault error judged = Refuses error judged

-- no whole frame without a fault is in front of what is left, and why
abbrev pub IsNoFrame : ℕ → List ℕ → FramesEnd → Type 0
IsNoFrame m left (ends.Incomplete needed) =
    (judge_frame plain (Some m) left ≡ past) × (needed ≡ least_length left)
IsNoFrame m left ends.TooLarge = judge_frame plain (Some m) left ≡ fault too_large
IsNoFrame m left (ends.Fault error) = SaysFault error (judge_frame plain (Some m) left)
IsNoFrame m left ends.Done = ⊥
IsNoFrame m left (ends.Full needed) = ⊥

-- The next frame is whole and without fault, and has so many nodes, at most one a byte. Where the
-- list of heads has room for it, that of nodes has not.
pub record HasNoRoom (m : ℕ) (deep : Bool) (bytes : List ℕ)
    (read : FramesRead) (head_room node_room needed : ℕ) : Type 0 where
  pub raw : Raw
  pub frame : Frame
  pub size : ℕ
  pub found : scan (Some m) (drop read.used bytes) ≡ took raw size
  pub is : decode_raw raw ≡ Ok frame
  pub needed_is : needed ≡ length (nodes_at raw deep (read.used + payload_place raw.kind))
  pub few : needed ≤ size
  pub no_room : read.heads < head_room → node_room < read.nodes + needed

-- what follows the frames that were read
abbrev pub EndsWith : ℕ → Bool → List ℕ → List Head → List Node → FramesRead → FramesEnd → Type 0
EndsWith m deep bytes heads nodes read ends.Done = read.used ≡ length bytes
EndsWith m deep bytes heads nodes read (ends.Full needed) =
    HasNoRoom m deep (in_reach bytes) read (length heads) (length nodes) needed
EndsWith m deep bytes heads nodes read end =
    (read.used < length bytes) × IsNoFrame m (drop read.used (in_reach bytes)) end

-- So many heads and nodes in front of their lists say the frames in front of the bytes. Each frame
-- has eight bytes at least, and at most as many nodes as bytes.
pub record ReadsFrames (m : ℕ) (deep : Bool) (bytes : List ℕ)
    (heads : List Head) (nodes : List Node) (read : FramesRead) : Type 0 where
  pub heads_fit : read.heads ≤ length heads
  pub nodes_fit : read.nodes ≤ length nodes
  pub frames : SayFrames m deep (in_reach bytes) 0 0
      (take read.heads heads) (take read.nodes nodes) read.used
  pub within : read.used ≤ length (in_reach bytes)
  pub few_heads : 8 * read.heads ≤ read.used
  pub few_nodes : read.nodes ≤ read.used
