-- What a header scan returns.
use Rattle.std.specs.Prelude.{◌≡◌, ℕ, ◌+◌, ◌-◌, ◌^◌, ◌<◌, ◌≤◌, List, length, take, drop}
use Rattle.amqp_types.specs.Judging.{Judged, took, past, fault, unknown_frame_type}
use Rattle.amqp_types.specs.Judging.{bad_protocol_header, too_large, bad_frame_end}
use Rattle.amqp_wire.specs.declared.frame_type.AMQPFrameType.{AMQPFrameType}
use Rattle.amqp_wire.specs.declared.frame_type.AMQPFrameType.TheVariants as kinds
use Rattle.amqp_wire.specs.declared.looking.Look.{Look}
use Rattle.amqp_wire.specs.declared.looking.Look.TheVariants as looks
use Rattle.amqp_wire.specs.declared.looking.FrameLayout.{FrameLayout}
use Rattle.amqp_wire.specs.Frames.{Raw}

-- what a scan says, where `frame` says it of a whole frame by its layout
abbrev pub looked_by : (FrameLayout → Judged Raw) → Look → Judged Raw
looked_by frame looks.Incomplete = past
looked_by frame looks.UnknownFrameType = fault unknown_frame_type
looked_by frame looks.BadProtocolHeader = fault bad_protocol_header
looked_by frame looks.TooLarge = fault too_large
looked_by frame looks.BadFrameEnd = fault bad_frame_end
looked_by frame (looks.Whole layout) = frame layout

-- the frame with this layout in some bytes
abbrev pub laid_out : FrameLayout → List ℕ → Raw
laid_out layout bytes = record {
  kind = layout.frame_type;
  channel = layout.channel_id;
  payload = take layout.payload_len (drop layout.payload_start bytes);
}

-- what a scan of these bytes says
abbrev pub looked : Look → List ℕ → Judged Raw
looked look bytes = looked_by (λ layout. took (laid_out layout bytes) layout.frame_len) look

-- a frame and its payload lie within the bytes
abbrev pub IsWithinBytes : ℕ → FrameLayout → Type 0
IsWithinBytes count layout =
    (layout.payload_start + layout.payload_len ≤ layout.frame_len) × (layout.frame_len ≤ count)

-- a frame that was found lies within the bytes
abbrev pub LiesInside : Look → List ℕ → Type 0
LiesInside (looks.Whole layout) bytes = IsWithinBytes (length bytes) layout
LiesInside looks.Incomplete bytes = Unit {0}
LiesInside looks.UnknownFrameType bytes = Unit {0}
LiesInside looks.BadProtocolHeader bytes = Unit {0}
LiesInside looks.TooLarge bytes = Unit {0}
LiesInside looks.BadFrameEnd bytes = Unit {0}

-- the frame with this layout, of bytes whose first one is left out
abbrev pub laid_out_behind : FrameLayout → List ℕ → Raw
laid_out_behind layout rest = record {
  kind = layout.frame_type;
  channel = layout.channel_id;
  payload = take layout.payload_len (drop (layout.payload_start - 1) rest);
}

-- what a scan says of bytes whose first one is left out
abbrev pub looked_behind : Look → List ℕ → Judged Raw
looked_behind look rest =
    looked_by (λ layout. took (laid_out_behind layout rest) (layout.frame_len - 1)) look

-- a frame that was found lies within the bytes and the first one, which is not in its payload
abbrev pub IsBehind : Look → List ℕ → Type 0
IsBehind (looks.Whole layout) rest =
    (1 ≤ layout.payload_start) × IsWithinBytes (1 + length rest) layout
IsBehind looks.Incomplete rest = Unit {0}
IsBehind looks.UnknownFrameType rest = Unit {0}
IsBehind looks.BadProtocolHeader rest = Unit {0}
IsBehind looks.TooLarge rest = Unit {0}
IsBehind looks.BadFrameEnd rest = Unit {0}

-- how many bytes come before a payload: type, channel and length, or `AMQP` and a zero byte
abbrev pub payload_place : AMQPFrameType → ℕ
payload_place kinds.ProtocolHeader = 5
payload_place kinds.Method = 7
payload_place kinds.Header = 7
payload_place kinds.Body = 7
payload_place kinds.Heartbeat = 7

-- a payload begins at this place, and its length fits the four bytes that it is written in
abbrev pub BeginsAt : ℕ → FrameLayout → Type 0
BeginsAt place layout = (layout.payload_start ≡ place) × (layout.payload_len < 2 ^ 32)

-- a frame that was found has its payload at the place for its type
abbrev pub IsPlaced : Look → Type 0
IsPlaced (looks.Whole layout) = BeginsAt (payload_place layout.frame_type) layout
IsPlaced looks.Incomplete = Unit {0}
IsPlaced looks.UnknownFrameType = Unit {0}
IsPlaced looks.BadProtocolHeader = Unit {0}
IsPlaced looks.TooLarge = Unit {0}
IsPlaced looks.BadFrameEnd = Unit {0}

-- a frame that was found is of this type, and its payload begins at this place
abbrev pub IsPlacedAt : AMQPFrameType → ℕ → Look → Type 0
IsPlacedAt kind place (looks.Whole layout) = (layout.frame_type ≡ kind) × BeginsAt place layout
IsPlacedAt kind place looks.Incomplete = Unit {0}
IsPlacedAt kind place looks.UnknownFrameType = Unit {0}
IsPlacedAt kind place looks.BadProtocolHeader = Unit {0}
IsPlacedAt kind place looks.TooLarge = Unit {0}
IsPlacedAt kind place looks.BadFrameEnd = Unit {0}
