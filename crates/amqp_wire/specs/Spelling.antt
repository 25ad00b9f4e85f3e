-- All the bytes that encode a frame, and a sequence of frames (AMQP 0-9-1, sections
-- 4.2.2 to 4.2.7).
use Rattle.std.specs.Prelude.{◌≡◌, ℕ, ◌+◌, ◌^◌, ◌<◌, ◌≤◌, List, [], ◌∷◌}
use Rattle.std.specs.Prelude.{◌++◌, length, Option, Some, None}
use Rattle.amqp_types.specs.Levels.{Level, plain, tidy, strict}
use Rattle.amqp_types.specs.Numbers.{bytes2, bytes4, number_bytes}
use Rattle.amqp_types.specs.MethodSpelling.{SpellsPayload}
use Rattle.amqp_types.specs.ContentHeaders.{SpellsContentHeader}
use Rattle.amqp_wire.specs.declared.frame_type.AMQPFrameType.{AMQPFrameType}
use Rattle.amqp_wire.specs.declared.frame_type.AMQPFrameType.TheVariants as kinds
use Rattle.amqp_wire.specs.Frames.{Frame, Proto, Meth, Head, Body, Beat, BadBeat, Raw}
use Rattle.amqp_types.specs.Constants.{protocol_byte, method_byte, header_byte, body_byte}
use Rattle.amqp_types.specs.Constants.{heartbeat_byte, end_byte, protocol_mark}

-- type, channel and length, which come before n bytes of payload
abbrev pub head : ℕ → ℕ → ℕ → List ℕ
head type channel n = type ∷ (number_bytes bytes2 channel ++ number_bytes bytes4 n)

-- a frame that is no protocol header: type, channel, length, payload and the end byte
abbrev pub framed : ℕ → ℕ → List ℕ → List ℕ
framed type channel payload = head type channel (length payload) ++ (payload ++ end_byte ∷ [])

-- a protocol header: `AMQP`, 0 and the version
abbrev pub proto : ℕ → ℕ → ℕ → List ℕ
proto major minor revision = protocol_byte ∷ (protocol_mark ++ major ∷ minor ∷ revision ∷ [])

-- the first byte of a frame
abbrev pub byte_of : AMQPFrameType → ℕ
byte_of kinds.ProtocolHeader = protocol_byte
byte_of kinds.Method = method_byte
byte_of kinds.Header = header_byte
byte_of kinds.Body = body_byte
byte_of kinds.Heartbeat = heartbeat_byte

-- the bytes of a frame of this type with this payload, which of a protocol header is the version
abbrev pub bytes_as : AMQPFrameType → ℕ → List ℕ → List ℕ
bytes_as kinds.ProtocolHeader channel payload = protocol_byte ∷ (protocol_mark ++ payload)
bytes_as kinds.Method channel payload = framed (byte_of kinds.Method) channel payload
bytes_as kinds.Header channel payload = framed (byte_of kinds.Header) channel payload
bytes_as kinds.Body channel payload = framed (byte_of kinds.Body) channel payload
bytes_as kinds.Heartbeat channel payload = framed (byte_of kinds.Heartbeat) channel payload

-- all bytes of a borrowed frame
abbrev pub raw_bytes : Raw → List ℕ
raw_bytes raw = bytes_as raw.kind raw.channel raw.payload

-- these bytes are a frame of this type, with this payload
pub record IsFramed (bytes : List ℕ) (type channel : ℕ) (payload : List ℕ) : Type 0 where
  pub channel_fits : channel < 2 ^ 16
  pub length_fits : length payload < 2 ^ 32
  pub bytes_are : bytes ≡ framed type channel payload

-- A heartbeat may have bytes, which mean nothing. Only at plain are they taken.
abbrev pub IsBeatPayload : Level → List ℕ → Type 0
IsBeatPayload plain payload = Unit {0}
IsBeatPayload tidy payload = payload ≡ []
IsBeatPayload strict payload = payload ≡ []

-- a heartbeat on this channel
pub record IsBeat (level : Level) (bytes : List ℕ) (channel : ℕ) : Type 0 where
  pub payload : List ℕ
  pub is_framed : IsFramed bytes heartbeat_byte channel payload
  pub at_level : IsBeatPayload level payload

-- a frame of this type, whose payload encodes what it carries
pub record Carries {A : Type 0} (Spelled : List ℕ → A → Type 0)
    (type : ℕ) (bytes : List ℕ) (channel : ℕ) (carried : A) : Type 0 where
  pub payload : List ℕ
  pub is_framed : IsFramed bytes type channel payload
  pub spelled : Spelled payload carried

-- these bytes encode the frame
abbrev pub Spells : Level → List ℕ → Frame → Type 0
Spells level bytes (Proto major minor revision) = bytes ≡ proto major minor revision
Spells level bytes (Meth channel m) = Carries (SpellsPayload level) method_byte bytes channel m
Spells level bytes (Head channel header) =
    Carries (SpellsContentHeader level) header_byte bytes channel header
Spells level bytes (Body channel content) = IsFramed bytes body_byte channel content
Spells level bytes Beat = IsBeat level bytes 0
Spells level bytes (BadBeat channel) = (0 < channel) × IsBeat level bytes channel

-- a frame's payload has at most m bytes: all but 8 bytes are payload, so that a protocol header, of
-- 8 bytes, is always within
abbrev pub IsWithin : Option ℕ → List ℕ → Type 0
IsWithin None bytes = Unit {0}
IsWithin (Some m) bytes = length bytes ≤ m + 8

-- the bytes encode these frames, one after another, each within the limit
abbrev pub SpellsFrames : Level → Option ℕ → List ℕ → List Frame → Type 0
SpellsFrames level m bytes [] = bytes ≡ []
SpellsFrames level m bytes (f ∷ fs) =
    (first rest : List ℕ) × (bytes ≡ first ++ rest) × Spells level first f
    × IsWithin m first × SpellsFrames level m rest fs
