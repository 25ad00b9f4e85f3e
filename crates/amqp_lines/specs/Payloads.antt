-- Frames by their outline and canonical payload, and what is written for the fields in a payload.
use Rattle.std.specs.Prelude.{◌≡◌, ℕ, List, [], ◌∷◌, ◌++◌, codes, unwrap_or, Result}
use Rattle.std.specs.Fmt.{decimal}
use Rattle.amqp_types.specs.Levels.{strict}
use Rattle.amqp_types.specs.Slots.{Slot}
use Rattle.amqp_types.specs.Rows.{slots_at}
use Rattle.amqp_types.specs.Methods.{Method}
use Rattle.amqp_types.specs.MethodSpelling.{SpellsPayload}
use Rattle.amqp_types.specs.ContentHeaders.{ContentHeader, SpellsContentHeader}
use Rattle.amqp_types.specs.declared.errors.NoMemory.{NoMemory}
use Rattle.amqp_wire.specs.declared.outline.FrameOutline.{FrameOutline}
use Rattle.amqp_wire.specs.Frames.{Frame, Proto, Meth, Head, Body, Beat, BadBeat}
use Rattle.amqp_wire.specs.Outlines.{outline_of}
use Rattle.amqp_lines.specs.Lines.{spaced, words}
use Rattle.amqp_lines.specs.Rendering.{AppendsText}

-- ---- canonical payloads

-- the payload encodes the frame strictly
abbrev pub IsPayload : List ℕ → Frame → Type 0
IsPayload payload (Proto major minor revision) = payload ≡ major ∷ minor ∷ revision ∷ []
IsPayload payload (Meth channel m) = SpellsPayload strict payload m
IsPayload payload (Head channel header) = SpellsContentHeader strict payload header
IsPayload payload (Body channel content) = payload ≡ content
IsPayload payload Beat = payload ≡ []
IsPayload payload (BadBeat channel) = payload ≡ []

-- a frame by its outline and its canonical payload
pub record IsIn (outline : FrameOutline) (payload : List ℕ) (frame : Frame) : Type 0 where
  pub outline_is : outline ≡ outline_of frame
  pub is_payload : IsPayload payload frame

-- ---- rendering

-- the words of a method in front of its fields
abbrev pub ids_words : ℕ → ℕ → ℕ → List ℕ
ids_words channel class id =
    codes "method" ++ (spaced channel ++ (spaced class ++ (codes "." ++ decimal id)))

-- the words of a content header in front of its properties
abbrev pub sizes_words : ℕ → ℕ → ℕ → List ℕ
sizes_words channel class size = codes "header" ++ (spaced channel ++ (spaced class ++ spaced size))

-- the fields that the table has for a method; a method that it has not has none
abbrev pub fields_at : ℕ → ℕ → List Slot
fields_at class id = unwrap_or (slots_at class id) []

-- what is written for a method with these ids, out of its payload
abbrev pub SaysMethod : ℕ → ℕ → ℕ → List ℕ → List ℕ → List ℕ → Result (Unit {0}) NoMemory → Type 0
SaysMethod channel class id payload old new r =
    (m : Method) → class ≡ m.class → id ≡ m.id → SpellsPayload strict payload m
    → AppendsText old new (words (Meth channel m)) r

-- what is written for a content header of this class and size, out of its payload
abbrev pub SaysHeader : ℕ → ℕ → ℕ → List ℕ → List ℕ → List ℕ → Result (Unit {0}) NoMemory → Type 0
SaysHeader channel class size payload old new r =
    (header : ContentHeader) → class ≡ header.class_id
    → size ≡ header.body_size → SpellsContentHeader strict payload header
    → AppendsText old new (words (Head channel header)) r
