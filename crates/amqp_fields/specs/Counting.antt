-- How many fields stand in methods and content headers.
use Rattle.std.specs.Prelude.{ℕ, ◌+◌, List, [], ◌∷◌, drop, unwrap_or}
use Rattle.amqp_types.specs.Judging.{Judged, took}
use Rattle.amqp_types.specs.Numbers.{bytes2, judge_number}
use Rattle.amqp_types.specs.Flags.{bit_of, flag_at}
use Rattle.amqp_types.specs.Rows.{slots_at}
use Rattle.amqp_types.specs.Slots.{Slot}
use Rattle.amqp_types.specs.Properties.{Property, properties}
use Rattle.amqp_wire.specs.declared.outline.FrameOutline.{FrameOutline}
use Rattle.amqp_wire.specs.declared.outline.FrameOutline.TheVariants as outlines
use Rattle.amqp_fields.specs.Listed.{kept_count}

-- how many fields are not reserved
abbrev pub total : List Slot → ℕ
total [] = 0
total (slot ∷ slots) = kept_count slot + total slots

-- how many fields a method has, 0 where there is no such method
abbrev pub method_count : ℕ → ℕ → ℕ
method_count class id = total (unwrap_or (slots_at class id) [])

-- how many properties the mask has
abbrev pub set_count : ℕ → List Property → ℕ
set_count mask [] = 0
set_count mask (p ∷ ps) = bit_of (flag_at mask p.bit) + set_count mask ps

-- the same by the mask in front; where there is none, nothing is set
abbrev pub set_at : Judged ℕ → ℕ
set_at (took mask used) = set_count mask properties
set_at judged = 0

-- How many fields a frame of this outline has. In a content header 12 bytes are in front of the
-- mask (AMQP 0-9-1, section 4.2.6.1).
abbrev pub count_of : List ℕ → FrameOutline → ℕ
count_of payload outlines.ProtocolHeader = 3
count_of payload (outlines.Method channel class id) = method_count class id
count_of payload (outlines.Header channel class size) =
    set_at (judge_number bytes2 (drop 12 payload))
count_of payload (outlines.Body channel count) = 0
count_of payload (outlines.Heartbeat channel) = 0
