-- What was put is what the typed stack writes, and has the fields that were put.
use Rattle.std.specs.Prelude.{◌≡◌, ℕ, List, ◌++◌, length, take, Bool, Option, None, Ok}
use Rattle.amqp_types.specs.Judging.{took}
use Rattle.amqp_types.specs.Methods.{Method}
use Rattle.amqp_types.specs.Writing.{Appends}
use Rattle.amqp_protocol.specs.Classes.{method_of}
use Rattle.amqp_protocol.specs.declared.class.AMQPClass.{AMQPClass}
use Rattle.amqp_wire.specs.Canonical.{canon, size_of, read_back}
use Rattle.amqp_wire.specs.Frames.{Frame, Meth, Raw}
use Rattle.amqp_wire.specs.Laws.{IsFrameHeld}
use Rattle.amqp_wire.specs.HeaderScan.{scan}
use Rattle.amqp_entries.specs.declared.errors.PutError.{PutError}
use Rattle.amqp_put.specs.Made.{MakesBytes, MakesMethod}
use Rattle.amqp_put.specs.MadeFrames.{MakesEight, MakesFrame}
use Rattle.amqp_frame.specs.Frames.{frame_of}
use Rattle.amqp_frame.specs.declared.frame.AMQPFrame.{AMQPFrame}
use Rattle.amqp_fields.specs.Meaning.{AreNodesOf}
use Rattle.amqp_fields.specs.Reading.{fields_nodes}

-- `gen_frame` appended the bytes of this frame
abbrev pub Generated : List ℕ → List ℕ → Frame → Type 0
Generated before after frame =
    Appends {X = Unit {0}} before after (size_of frame) (canon frame) (Ok tt)

-- it appended the first n bytes of the slice
abbrev pub IsInFront : List ℕ → List ℕ → List ℕ → ℕ → Type 0
IsInFront before after new n = after ≡ before ++ take n new

-- What is put of a method, of a frame with a payload, of a heartbeat or of a protocol header is
-- what `gen_frame` appends of a typed frame that is that frame.
pub record PutIsGenerated : Type 0 where
  pub method : (channel max n : ℕ) (class : AMQPClass) (m : Method) (flaw : Option PutError)
      (old new before after : List ℕ)
      → method_of class ≡ m → MakesMethod old new channel max m flaw (Ok n)
      → Generated before after (Meth channel (method_of class)) → IsInFront before after new n
  pub frame : (max n : ℕ) (typed : AMQPFrame) (frame : Frame) (flaw : Option PutError)
      (old new before after : List ℕ)
      → frame_of typed ≡ frame → MakesFrame old new max frame flaw (Ok n)
      → Generated before after (frame_of typed) → IsInFront before after new n
  pub eight : (n : ℕ) (typed : AMQPFrame) (frame : Frame) (old new before after : List ℕ)
      → frame_of typed ≡ frame → MakesEight old new frame (Ok n)
      → Generated before after (frame_of typed) → IsInFront before after new n

-- The header scan finds a payload in what was put, and the nodes that `read_fields` lists of it are
-- those of the frame.
abbrev pub PutFieldsAreRead : Type 0
PutFieldsAreRead = (old new : List ℕ) (n : ℕ) (frame : Frame) (flaw : Option PutError) (raw : Raw)
    (used : ℕ) (deep : Bool)
    → IsFrameHeld frame → size_of frame ≡ Ok (length (canon frame))
    → MakesBytes old new flaw (canon frame) (Ok n) → scan None new ≡ took raw used
    → AreNodesOf deep raw.payload (read_back frame) (fields_nodes raw.kind deep raw.payload)
