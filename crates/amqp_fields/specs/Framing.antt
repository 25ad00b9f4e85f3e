-- What the parts of reading frames return.
use Rattle.std.specs.Prelude.{◌≡◌, ℕ, ◌+◌, ◌-◌, ◌≤◌, Bool, List}
use Rattle.std.specs.Prelude.{length, drop, Some, Result, Ok, Err}
use Rattle.amqp_types.specs.Answers.{RefusesWhole}
use Rattle.amqp_types.specs.Judging.{took}
use Rattle.amqp_types.specs.declared.errors.ParserError.{ParserError}
use Rattle.amqp_wire.specs.declared.looking.FrameLayout.{FrameLayout}
use Rattle.amqp_wire.specs.declared.outline.FrameOutline.{FrameOutline}
use Rattle.amqp_wire.specs.declared.outline.FrameOutline.TheVariants as outlines
use Rattle.amqp_wire.specs.Frames.{Frame, Raw}
use Rattle.amqp_wire.specs.Judgements.{IsPayloadFault}
use Rattle.amqp_wire.specs.Looks.{BeginsAt, IsWithinBytes, laid_out, payload_place}
use Rattle.amqp_wire.specs.HeaderScan.{scan}
use Rattle.amqp_wire.specs.Outlines.{outline_of}
use Rattle.amqp_wire.specs.Verdicts.{decode_raw}
use Rattle.amqp_fields.specs.declared.node.Node.{Node}
use Rattle.amqp_fields.specs.declared.head.Head.{Head}
use Rattle.amqp_fields.specs.declared.frames.FramesEnd.{FramesEnd}
use Rattle.amqp_fields.specs.Finding.{Counts}
use Rattle.amqp_fields.specs.Frames.{IsNoFrame}
use Rattle.amqp_fields.specs.Heads.{SaysFrame, head_of}
use Rattle.amqp_fields.specs.Listed.{listed_payload}
use Rattle.amqp_fields.specs.Listing.{listing, pushed_all}

-- a head with the ids and sizes of an outline
abbrev pub outlined : Head → FrameOutline → Head
outlined head (outlines.Method channel class id) = record head { class_id = class; method_id = id }
outlined head (outlines.Header channel class size) =
    record head { class_id = class; body_size = size }
outlined head outlines.ProtocolHeader = head
outlined head (outlines.Body channel count) = head
outlined head (outlines.Heartbeat channel) = head

-- a whole frame lies so in front
pub record IsFound (m : ℕ) (left : List ℕ) (layout : FrameLayout) : Type 0 where
  pub found : scan (Some m) left ≡ took (laid_out layout left) layout.frame_len
  pub inside : IsWithinBytes (length left) layout
  pub placed : BeginsAt (payload_place layout.frame_type) layout

-- where the frame in front lies, or why there is none
abbrev pub FindsFrame : ℕ → List ℕ → Result FrameLayout FramesEnd → Type 0
FindsFrame m left (Ok layout) = IsFound m left layout
FindsFrame m left (Err end) = IsNoFrame m left end

-- a payload was decoded, and its nodes are put after so many others
pub record IsRead (raw : Raw) (start : ℕ) (deep : Bool) (old : List Node)
    (first : ℕ) (new : List Node) (head : Head) : Type 0 where
  pub frame : Frame
  pub is : decode_raw raw ≡ Ok frame
  pub count : ℕ
  pub counts : Counts
      (listed_payload raw.kind deep (start + length raw.payload) raw.payload) old first new count
  pub head_is : head ≡ head_of raw (outline_of frame) start first (count - first)

-- the same, or the fault of the payload
abbrev pub Reads : Raw → ℕ → Bool → List Node → ℕ → List Node → Result Head ParserError → Type 0
Reads raw start deep old first new (Ok head) = IsRead raw start deep old first new head
Reads raw start deep old first new (Err error) =
    IsPayloadFault error × RefusesWhole error (decode_raw raw) × (new ≡ old)

-- a frame stands at a place of the bytes, and its nodes are put after so many others
pub record IsNextFrame (m : ℕ) (deep : Bool) (bytes : List ℕ) (used : ℕ) (old : List Node)
    (first : ℕ) (new : List Node) (size : ℕ) (head : Head) : Type 0 where
  pub own : List Node
  pub says : SaysFrame m deep bytes used first head own size
  pub list_is : new ≡ (pushed_all (listing old first) own).nodes
  pub few : length own ≤ size
  pub within : used + size ≤ length bytes
  pub some : 8 ≤ size

-- the same, or why there is none
abbrev pub IsNext : ℕ → Bool → List ℕ → ℕ → List Node → ℕ
    → List Node → Result (ℕ × Head) FramesEnd → Type 0
IsNext m deep bytes used old first new (Ok (size, head)) =
    IsNextFrame m deep bytes used old first new size head
IsNext m deep bytes used old first new (Err end) = IsNoFrame m (drop used bytes) end × (new ≡ old)
