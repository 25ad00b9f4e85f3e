-- What a header scan returns.
use Rattle.std.specs.Prelude.{◌≡◌, ℕ, ◌+◌, ◌≤◌, List, length, take, drop}
use Rattle.std.specs.Prelude.{Option, Some, None, Result, Ok, Err}
use Rattle.amqp_types.specs.Judging.{Fault, Judged, took, past, fault}
use Rattle.amqp_wire.specs.declared.looking.FrameLayout.{FrameLayout}
use Rattle.amqp_wire.specs.Frames.{Raw}
use Rattle.amqp_wire.specs.HeaderScan.{scan}
use Rattle.amqp_wire.specs.Spelling.{byte_of}
use Rattle.amqp_stream.specs.declared.errors.StreamError.{StreamError}
use Rattle.amqp_stream.specs.declared.errors.StreamError.TheVariants as errors
use Rattle.amqp_stream.specs.Errors.{error_for, stream_error_status}
use Rattle.amqp_stream.specs.Reading.{Lies}
use Rattle.amqp_fields.specs.Frames.{least_length}
use Rattle.amqp_c.specs.declared.next.FrontFrame.{FrontFrame}

-- the status of a fault of bytes
abbrev pub fault_status : Fault → ℕ
fault_status bad = stream_error_status (error_for bad)

-- the status of what is read from the left; where more bytes are needed, that of input
-- that ends there
abbrev pub judged_status : {A : Type 0} → Judged A → ℕ
judged_status (took x used) = 0
judged_status past = stream_error_status errors.CutShort
judged_status (fault bad) = fault_status bad

-- ---- where the frame in front lies

-- a frame of so many bytes lies so at the front of the bytes
pub record IsLocated (bytes : List ℕ) (raw : Raw) (used : ℕ) (front : FrontFrame) : Type 0 where
  pub used_is : front.used ≡ used
  pub needed_is : front.needed ≡ used
  pub type_is : front.frame_type ≡ byte_of raw.kind
  pub channel_is : front.channel ≡ raw.channel
  pub payload_is : take front.payload_len (drop front.payload_start bytes) ≡ raw.payload
  pub payload_inside : front.payload_start + front.payload_len ≤ front.used
  pub inside : front.used ≤ length bytes

-- no frame lies there, and one that begins so has at least so many bytes
abbrev pub nowhere : ℕ → ℕ → FrontFrame
nowhere status needed = record {
  used = 0;
  needed = needed;
  payload_len = 0;
  payload_start = 0;
  channel = 0;
  frame_type = 0;
  status = status;
}

-- where the frame lies that is read from the left
abbrev pub Locates : List ℕ → Judged Raw → FrontFrame → Type 0
Locates bytes (took raw used) front = IsLocated bytes raw used front
Locates bytes past front =
    front ≡ nowhere (stream_error_status errors.CutShort) (least_length bytes)
Locates bytes (fault bad) front = front ≡ nowhere (fault_status bad) 0

-- the error of a stream that ends at what is read from the left; a frame is none
abbrev pub error_at : {A : Type 0} → Judged A → Option StreamError
error_at (took x used) = None
error_at past = Some errors.CutShort
error_at (fault bad) = Some (error_for bad)

-- where the frame in front lies, or the error of a stream that ends there
abbrev pub Scans : ℕ → List ℕ → Result FrameLayout StreamError → Type 0
Scans m bytes (Ok layout) = Lies m bytes layout
Scans m bytes (Err error) = error_at (scan (Some m) bytes) ≡ Some error
