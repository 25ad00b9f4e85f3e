-- The header scan: what stands at the front of some bytes, whatever its payload is (AMQP 0-9-1,
-- sections 4.2.2 and 4.2.3).
use Rattle.std.specs.Prelude.{◌≡◌, ℕ, ◌+◌, ◌==◌, ◌&&◌, Bool, true, false, List, [], ◌∷◌, length}
use Rattle.std.specs.Prelude.{take, drop, slice_index, nat_lt, if◌then◌else◌, Option, Some, None}
use Rattle.std.specs.Int.{w16, w32, from_be_bytes}
use Rattle.amqp_types.specs.Judging.{Judged, Judge, took, past, fault, ◌>>=◌, unknown_frame_type}
use Rattle.amqp_types.specs.Judging.{bad_protocol_header, too_large, bad_frame_end}
use Rattle.amqp_wire.specs.declared.frame_type.AMQPFrameType.{AMQPFrameType}
use Rattle.amqp_wire.specs.declared.frame_type.AMQPFrameType.TheVariants as kinds
use Rattle.amqp_wire.specs.declared.version.ProtocolVersion.{ProtocolVersion}
use Rattle.amqp_wire.specs.Frames.{Raw}
use Rattle.amqp_types.specs.Constants.{protocol_byte, method_byte, header_byte, body_byte}
use Rattle.amqp_types.specs.Constants.{heartbeat_byte, end_byte, protocol_mark}

-- the type that a frame's first byte names
abbrev pub type_of : ℕ → Option AMQPFrameType
type_of b =
    if b == protocol_byte then Some kinds.ProtocolHeader
    else (if b == method_byte then Some kinds.Method
    else (if b == header_byte then Some kinds.Header
    else (if b == body_byte then Some kinds.Body
    else (if b == heartbeat_byte then Some kinds.Heartbeat else None))))

-- a type byte is taken where it names a type
abbrev pub known_type : Option AMQPFrameType → Judged AMQPFrameType
known_type (Some kind) = took kind 1
known_type None = fault unknown_frame_type

-- the first byte of a frame, decoded
abbrev pub judge_frame_type : Judge AMQPFrameType
judge_frame_type [] = past
judge_frame_type (b ∷ bytes) = known_type (type_of b)

-- the bytes begin as expected, as far as both go
abbrev pub begins_as : List ℕ → List ℕ → Bool
begins_as [] wanted = true
begins_as (b ∷ bytes) [] = true
begins_as (b ∷ bytes) (w ∷ wanted) = (b == w) && begins_as bytes wanted

-- a version by its numbers
abbrev pub version : ℕ → ℕ → ℕ → ProtocolVersion
version major minor revision = record { major = major; minor = minor; revision = revision }

-- what follows the `A` of a protocol header: `MQP`, 0, and three version bytes
unfoldable pub judge_version : Judge ProtocolVersion
judge_version bytes =
    if begins_as bytes protocol_mark then
    (if nat_lt (length bytes) 7 then past
    else took (version (slice_index bytes 4) (slice_index bytes 5) (slice_index bytes 6)) 7)
    else fault bad_protocol_header

-- the number is above the limit, if there is one
abbrev pub is_above : ℕ → Option ℕ → Bool
is_above n None = false
is_above n (Some m) = nat_lt m n

-- the payload's length, which follows the channel
abbrev pub payload_length : List ℕ → ℕ
payload_length bytes = from_be_bytes w32 (take 4 (drop 2 bytes))

-- n bytes of payload after channel and length, and then the end byte 206
unfoldable pub ended_payload : AMQPFrameType → List ℕ → ℕ → Judged Raw
ended_payload kind bytes n =
    if nat_lt (length bytes) (n + 7) then past
    else (if slice_index bytes (n + 6) == end_byte
    then took
    (record {
      kind = kind;
      channel = from_be_bytes w16 (take 2 bytes);
      payload = take n (drop 6 bytes);
    })
    (n + 7)
    else fault bad_frame_end)

-- What follows a type byte: channel, length, payload and the end byte. The limit is tested as soon
-- as the length is there.
unfoldable pub judge_raw : Option ℕ → AMQPFrameType → Judge Raw
judge_raw m kind bytes =
    if nat_lt (length bytes) 6 then past
    else (if is_above (payload_length bytes) m then fault too_large
    else ended_payload kind bytes (payload_length bytes))

-- a protocol header, seen as a frame on channel 0
abbrev pub version_raw : ProtocolVersion → Raw
version_raw v =
    record {
      kind = kinds.ProtocolHeader;
      channel = 0;
      payload = v.major ∷ v.minor ∷ v.revision ∷ [];
    }

-- what follows the `A` of a protocol header, seen as a frame
abbrev pub version_at : Judge Raw
version_at bytes = do
  v ← judge_version bytes
  took (version_raw v.0) v.1

-- what follows the first byte, by the type that it names
unfoldable pub behind_type : Option ℕ → AMQPFrameType → Judge Raw
behind_type m kinds.ProtocolHeader bytes = version_at bytes
behind_type m kinds.Method bytes = judge_raw m kinds.Method bytes
behind_type m kinds.Header bytes = judge_raw m kinds.Header bytes
behind_type m kinds.Body bytes = judge_raw m kinds.Body bytes
behind_type m kinds.Heartbeat bytes = judge_raw m kinds.Heartbeat bytes

-- the frame at the front, with payloads of at most m bytes
unfoldable pub scan : Option ℕ → Judge Raw
scan m bytes = do
  kind ← judge_frame_type bytes
  raw ← behind_type m kind.0 (drop 1 bytes)
  took raw.0 (1 + raw.1)

-- the bytes begin with a whole frame of such a type
pub record BeginsWith (IsSuch : AMQPFrameType → Type 0)
    (m : Option ℕ) (bytes : List ℕ) : Type 0 where
  pub raw : Raw
  pub used : ℕ
  pub found : scan m bytes ≡ took raw used
  pub such : IsSuch raw.kind
