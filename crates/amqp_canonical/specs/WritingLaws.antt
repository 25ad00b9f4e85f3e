-- Canonical bytes are no more than the bytes that were decoded.
use Rattle.std.specs.Prelude.{◌≡◌, ◌≤◌, ℕ, List, length, true}
use Rattle.amqp_types.specs.Judging.{Judge, IsBytes}
use Rattle.amqp_types.specs.ValueBytes.{array_bytes, table_bytes, tagged_bytes}
use Rattle.amqp_types.specs.ValueJudging.{judge_value, judge_array, judge_table}
use Rattle.amqp_types.specs.Slots.{Slot}
use Rattle.amqp_types.specs.SlotJudging.{judge_slots}
use Rattle.amqp_types.specs.SlotBytes.{slots_bytes}
use Rattle.amqp_types.specs.SlotLaws.{are_least}
use Rattle.amqp_types.specs.Methods.{judge_payload, payload_bytes}
use Rattle.amqp_types.specs.ContentHeaders.{judge_content_header, content_header_bytes}
use Rattle.amqp_canonical.specs.Writes.{IsRead, canonical_of}
use Rattle.amqp_types.specs.Tidiness.{used_by}

-- canonical bytes are no more than the bytes that were used
abbrev pub WritesNoLonger : {A : Type 0} → Judge A → (A → List ℕ) → Type 0
WritesNoLonger judge canonical =
    (bytes : List ℕ) → IsBytes bytes → IsRead (judge bytes)
    → length (canonical_of canonical (judge bytes)) ≤ used_by (judge bytes)

-- of values, for each number of levels that may nest
abbrev pub ValuesAreNoLonger : Type 0
ValuesAreNoLonger = (depth_left : ℕ) → WritesNoLonger (judge_value depth_left) tagged_bytes

-- of arrays
abbrev pub ArraysAreNoLonger : Type 0
ArraysAreNoLonger =
    (depth_left : ℕ) → WritesNoLonger (judge_array (judge_value depth_left)) array_bytes

-- of tables
abbrev pub TablesAreNoLonger : Type 0
TablesAreNoLonger =
    (depth_left : ℕ) → WritesNoLonger (judge_table (judge_value depth_left)) table_bytes

-- of fields, where the constants of reserved ones are the least of their forms
abbrev pub SlotsAreNoLonger : Type 0
SlotsAreNoLonger =
    (slots : List Slot) → are_least slots ≡ true
    → WritesNoLonger (judge_slots slots) (slots_bytes slots)

-- of methods
abbrev pub PayloadsAreNoLonger : Type 0
PayloadsAreNoLonger = WritesNoLonger judge_payload payload_bytes

-- of content headers
abbrev pub ContentHeadersAreNoLonger : Type 0
ContentHeadersAreNoLonger = WritesNoLonger judge_content_header content_header_bytes
