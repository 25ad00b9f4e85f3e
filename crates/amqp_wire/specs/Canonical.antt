-- The canonical bytes of frames, how many they are, and which frames are not written.
use Rattle.std.specs.Prelude.{◌≡◌, ℕ, ◌-◌, ◌+◌, ◌^◌, ◌<◌, nat_lt, Bool, false, ◌||◌, List, [], ◌∷◌}
use Rattle.std.specs.Prelude.{length, if◌then◌else◌, Result, Ok, Err}
use Rattle.std.specs.List.{flat_map}
use Rattle.amqp_types.specs.Sizes.{measured}
use Rattle.amqp_types.specs.Writing.{written}
use Rattle.amqp_types.specs.SlotBytes.{any_deep, any_long}
use Rattle.amqp_types.specs.Methods.{payload_bytes}
use Rattle.amqp_types.specs.PropertyBytes.{any_deep_option, any_long_option}
use Rattle.amqp_types.specs.ContentHeaders.{content_header_bytes}
use Rattle.amqp_types.specs.declared.errors.GenError.{GenError}
use Rattle.amqp_types.specs.declared.errors.GenError.TheVariants as errors
use Rattle.amqp_wire.specs.Frames.{Frame, Proto, Meth, Head, Body, Beat, BadBeat, beat_on}
use Rattle.amqp_wire.specs.Spelling.{framed, proto}
use Rattle.amqp_types.specs.Constants.{method_byte, header_byte, body_byte, heartbeat_byte}

-- the payload as it is written: a heartbeat has none
abbrev pub payload_of : Frame → List ℕ
payload_of (Proto major minor revision) = major ∷ minor ∷ revision ∷ []
payload_of (Meth channel m) = payload_bytes m
payload_of (Head channel header) = content_header_bytes header
payload_of (Body channel content) = content
payload_of Beat = []
payload_of (BadBeat channel) = []

-- the canonical bytes of a frame
unfoldable pub canon : Frame → List ℕ
canon (Proto major minor revision) = proto major minor revision
canon (Meth channel m) = framed method_byte channel (payload_bytes m)
canon (Head channel header) = framed header_byte channel (content_header_bytes header)
canon (Body channel content) = framed body_byte channel content
canon Beat = framed heartbeat_byte 0 []
canon (BadBeat channel) = framed heartbeat_byte channel []

-- the canonical bytes of a sequence
abbrev pub canon_frames : List Frame → List ℕ
canon_frames frames = flat_map canon frames

-- tables and arrays nest more than 64 deep in the frame
abbrev pub is_deep : Frame → Bool
is_deep (Meth channel m) = any_deep m.items
is_deep (Head channel header) = any_deep_option header.options
is_deep frame = false

-- a length that four bytes do not hold
abbrev pub is_long_for : List ℕ → Bool
is_long_for bytes = nat_lt (2 ^ 32 - 1) (length bytes)

-- something in the frame has such a length, or its payload has
abbrev pub is_long : Frame → Bool
is_long (Meth channel m) = any_long m.items || is_long_for (payload_bytes m)
is_long (Head channel header) =
    any_long_option header.options || is_long_for (content_header_bytes header)
is_long (Body channel content) = is_long_for content
is_long frame = false

-- the number of canonical bytes, or why there are none
unfoldable pub size_of : Frame → Result ℕ GenError
size_of frame = measured (is_deep frame) (is_long frame) (canon frame)

-- the size of a frame by that of its payload
abbrev pub framed_size : Result ℕ GenError → Result ℕ GenError
framed_size (Ok n) = if nat_lt (2 ^ 32 - 1) n then Err errors.TooLong else Ok (n + 8)
framed_size (Err error) = Err error

-- The frame that the canonical bytes are decoded to: a bad heartbeat on channel 0 is written
-- as a heartbeat.
abbrev pub read_back : Frame → Frame
read_back (BadBeat channel) = beat_on channel
read_back frame = frame

-- What a call that puts canonical bytes at the front of a slice returns, and what it
-- leaves in the slice.
abbrev pub SliceAnswers : List ℕ → List ℕ → Result ℕ GenError → List ℕ → Result ℕ GenError → Type 0
SliceAnswers old new size bytes (Ok n) =
    (size ≡ Ok n) × (n ≡ length bytes) × (new ≡ written old 0 bytes)
SliceAnswers old new size bytes (Err errors.BufferTooSmall) =
    (size ≡ Ok (length bytes)) × (length old < length bytes) × (new ≡ old)
SliceAnswers old new size bytes (Err errors.NoMemory) = ⊥
SliceAnswers old new size bytes (Err error) = (size ≡ Err error) × (new ≡ old)
