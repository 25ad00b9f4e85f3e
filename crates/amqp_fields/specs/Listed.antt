-- The nodes of fields and values, out of the bytes at the front. These are a part of the bytes in
-- which spans are counted, and are given by the place where they end in them.
use Rattle.std.specs.Prelude.{ℕ, zero, suc, ◌+◌, ◌-◌, List, [], ◌∷◌, ◌++◌, length, drop, Bool}
use Rattle.std.specs.Prelude.{true, false, Option, Some, None, Result, Ok, Err}
use Rattle.std.specs.Int.{w64, cast_unsigned}
use Rattle.amqp_types.specs.Judging.{Fault, Judge, Judged, took, past, fault, unknown_method}
use Rattle.amqp_types.specs.Judging.{unknown_tag, too_deep, ◌>>=◌}
use Rattle.amqp_types.specs.Sequences.{judge_map, judge_both}
use Rattle.amqp_types.specs.Numbers.{NumberWidth, bytes1, bytes2, bytes4, bytes8, judge_number}
use Rattle.amqp_types.specs.Signed.{judge_signed}
use Rattle.amqp_types.specs.Booleans.{judge_boolean}
use Rattle.amqp_types.specs.Strings.{judge_short_string, judge_long_string}
use Rattle.amqp_types.specs.Flags.{bit_of, flag_at, judge_flags}
use Rattle.amqp_types.specs.ValueJudging.{filled, read_map, took_all, judge_decimal}
use Rattle.amqp_types.specs.Tags.{tag_at, tag_byte}
use Rattle.amqp_types.specs.Slots.{Form, number_form, flags_form, short_string_form}
use Rattle.amqp_types.specs.Slots.{long_string_form, table_form, Slot, kept_slot, reserved_slot}
use Rattle.amqp_types.specs.SlotJudging.{judge_form}
use Rattle.amqp_types.specs.Rows.{slots_at}
use Rattle.amqp_types.specs.Properties.{Property, properties}
use Rattle.amqp_types.specs.Constants.{inner_depth}
use Rattle.amqp_types.specs.declared.tag.FieldTag.{FieldTag}
use Rattle.amqp_types.specs.declared.tag.FieldTag.TheVariants as tag
use Rattle.amqp_wire.specs.declared.frame_type.AMQPFrameType.{AMQPFrameType}
use Rattle.amqp_wire.specs.declared.frame_type.AMQPFrameType.TheVariants as kinds
use Rattle.amqp_fields.specs.declared.node.Node.{Node}
use Rattle.amqp_fields.specs.Kinds.{kind_of}
use Rattle.amqp_fields.specs.Nodes.{blank, cut_byte, held, keyed, numbered, spanned}

-- groups of nodes, one after another
abbrev pub joined : List (List Node) → List Node
joined [] = []
joined (group ∷ groups) = group ++ joined groups

-- nodes by the place where the bytes end, and by what is known of the first of them
abbrev pub Lister : Type 0
Lister = ℕ → Node → Judge (List Node)

-- where bytes end, by how many come after them up to a place
abbrev pub end_before : ℕ → List ℕ → ℕ
end_before end rest = end - length rest

-- ---- values

-- an unsigned number
abbrev pub listed_number : NumberWidth → Node → Judge (List Node)
listed_number width label = judge_map (λ n. numbered label n ∷ []) (judge_number width)

-- a number in two's complement
abbrev pub listed_signed : NumberWidth → Node → Judge (List Node)
listed_signed width label =
    judge_map (λ n. numbered label (cast_unsigned w64 n) ∷ []) (judge_signed width)

-- a truth value
abbrev pub listed_boolean : Node → Judge (List Node)
listed_boolean label = judge_map (λ b. numbered label (bit_of b) ∷ []) judge_boolean

-- a number, and its scale
abbrev pub scaled : Node → ℕ × ℕ → Node
scaled label d = record label { number = d.1; scale = d.0 }

-- a decimal
abbrev pub listed_decimal : Node → Judge (List Node)
listed_decimal label = judge_map (λ d. scaled label d ∷ []) judge_decimal

-- a string or a byte array, by its span
unfoldable pub listed_span : Judge (List ℕ) → Lister
listed_span judge end label bytes =
    judge bytes >>= λ x. took (spanned label (end_before end (drop x.1 bytes)) x.0 ∷ []) x.1

-- a key and its value
unfoldable pub listed_entry : Lister → ℕ → Judge (List Node)
listed_entry value end bytes =
    judge_short_string bytes
    >>= λ key. value end (keyed (end_before end (drop key.1 bytes)) key.0) (drop key.1 bytes)
    >>= λ v. took v.0 (key.1 + v.1)

-- the node of what holds these groups, and the groups
abbrev pub holding : Node → List (List Node) → List Node
holding node groups = held node (length (joined groups)) (length groups) ∷ joined groups

-- what fills an array or a table, each with its group
unfoldable pub listed_items : (ℕ → Judge (List Node)) → Lister
listed_items item end label bytes = judge_long_string bytes >>= λ content. took_all content.1
    (read_map (holding (spanned label (end_before end (drop content.1 bytes)) content.0))
    (filled (item (end_before end (drop content.1 bytes))) 0 content.0))

-- an array
abbrev pub listed_array : Lister → Lister
listed_array value = listed_items (λ end. value end blank)

-- a table
abbrev pub listed_table : Lister → Lister
listed_table value = listed_items (listed_entry value)

-- the value after a tag; `nested` lists a value one level deeper, where one more may be nested
unfoldable pub listed_behind : Option Lister → ℕ → Node → FieldTag → Judge (List Node)
listed_behind nested end label tag.Boolean bytes = listed_boolean label bytes
listed_behind nested end label tag.ShortShortInt bytes = listed_signed bytes1 label bytes
listed_behind nested end label tag.ShortShortUInt bytes = listed_number bytes1 label bytes
listed_behind nested end label tag.ShortInt bytes = listed_signed bytes2 label bytes
listed_behind nested end label tag.ShortUInt bytes = listed_number bytes2 label bytes
listed_behind nested end label tag.LongInt bytes = listed_signed bytes4 label bytes
listed_behind nested end label tag.LongUInt bytes = listed_number bytes4 label bytes
listed_behind nested end label tag.LongLongInt bytes = listed_signed bytes8 label bytes
listed_behind nested end label tag.Float bytes = listed_number bytes4 label bytes
listed_behind nested end label tag.Double bytes = listed_number bytes8 label bytes
listed_behind nested end label tag.DecimalValue bytes = listed_decimal label bytes
listed_behind nested end label tag.LongString bytes = listed_span judge_long_string end label bytes
listed_behind None end label tag.FieldArray bytes = fault too_deep
listed_behind (Some value) end label tag.FieldArray bytes = listed_array value end label bytes
listed_behind nested end label tag.Timestamp bytes = listed_number bytes8 label bytes
listed_behind None end label tag.FieldTable bytes = fault too_deep
listed_behind (Some value) end label tag.FieldTable bytes = listed_table value end label bytes
listed_behind nested end label tag.ByteArray bytes = listed_span judge_long_string end label bytes
listed_behind nested end label tag.Void bytes = took (label ∷ []) 0

-- a node of a kind
abbrev pub of_kind : Node → ℕ → Node
of_kind label kind = record label { kind = kind }

-- the value after a byte that is read as a tag; any other byte is a fault
abbrev pub listed_after : Option Lister → ℕ → Node → Option FieldTag → Judge (List Node)
listed_after nested end label None bytes = fault unknown_tag
listed_after nested end label (Some t) bytes =
    listed_behind nested end (of_kind label (tag_byte t)) t bytes >>= λ x. took x.0 (1 + x.1)

-- a tag and the value after it; where there is no byte, it is incomplete
unfoldable pub listed_tagged : Option Lister → Lister
listed_tagged nested end label [] = past
listed_tagged nested end label (byte ∷ bytes) = listed_after nested end label (tag_at byte) bytes

-- a value one level deeper, where so many more may be nested
unfoldable pub listed_nested : ℕ → Option Lister
listed_nested zero = None
listed_nested (suc depth_left) = Some (listed_tagged (listed_nested depth_left))

-- a tag and its value
unfoldable pub listed_value : ℕ → Lister
listed_value depth_left = listed_tagged (listed_nested depth_left)

-- ---- fields

-- a field at a place
abbrev pub placed : ℕ → Form → Node
placed place form = record blank { kind = kind_of form; place = place }

-- a place that is so many further
abbrev pub next_place : ℕ → ℕ → ℕ
next_place place n = cut_byte (place + n)

-- flags at places from one on
abbrev pub listed_bits : ℕ → List Bool → List Node
listed_bits place [] = []
listed_bits place (flag ∷ flags) =
    numbered (placed place (flags_form 1)) (bit_of flag) ∷ listed_bits (next_place place 1) flags

-- A field or a property of this form, from a place on. Of a table the node alone, and where `deep`,
-- those of its entries too, in whose values tables and arrays may nest 63 deep.
unfoldable pub listed_form : Bool → ℕ → ℕ → Form → Judge (List Node)
listed_form deep end place (number_form width) =
    listed_number width (placed place (number_form width))
listed_form deep end place (flags_form count) = judge_map (listed_bits place) (judge_flags count)
listed_form deep end place short_string_form =
    listed_span judge_short_string end (placed place short_string_form)
listed_form deep end place long_string_form =
    listed_span judge_long_string end (placed place long_string_form)
listed_form true end place table_form =
    listed_table (listed_value inner_depth) end (placed place table_form)
listed_form false end place table_form = listed_span judge_long_string end (placed place table_form)

-- how many fields stand in what is encoded so
abbrev pub field_count : Form → ℕ
field_count (flags_form count) = count
field_count form = 1

-- how many of them are not reserved
abbrev pub kept_count : Slot → ℕ
kept_count (kept_slot form) = field_count form
kept_count (reserved_slot form constant) = 0

-- a field, or nothing where it is reserved, whose bytes are passed
unfoldable pub listed_slot : Bool → ℕ → ℕ → Slot → Judge (List Node)
listed_slot deep end place (kept_slot form) = listed_form deep end place form
listed_slot deep end place (reserved_slot form constant) = judge_map (λ items. []) (judge_form form)

-- fields, one after another, from a place on
unfoldable pub listed_slots : Bool → ℕ → ℕ → List Slot → Judge (List Node)
listed_slots deep end place [] bytes = took [] 0
listed_slots deep end place (slot ∷ slots) bytes =
    judge_both (listed_slot deep end place slot)
    (listed_slots deep end (next_place place (kept_count slot)) slots) (λ a b. a ++ b) bytes

-- ---- properties

-- a property where its bit is set in the mask
unfoldable pub listed_option : Bool → Bool → ℕ → ℕ → Form → Judge (List Node)
listed_option true deep end place form bytes = listed_form deep end place form bytes
listed_option false deep end place form bytes = took [] 0

-- the properties whose bits are set in the mask, from a place on
unfoldable pub listed_set : ℕ → Bool → ℕ → ℕ → List Property → Judge (List Node)
listed_set mask deep end place [] bytes = took [] 0
listed_set mask deep end place (p ∷ ps) bytes =
    judge_both (listed_option (flag_at mask p.bit) deep end place p.form)
    (listed_set mask deep end (next_place place 1) ps) (λ a b. a ++ b) bytes

-- a mask, and those properties
unfoldable pub listed_properties : Bool → ℕ → Judge (List Node)
listed_properties deep end bytes = do
  mask ← judge_number bytes2 bytes
  set ← listed_set mask.0 deep end 0 properties (drop mask.1 bytes)
  took set.0 (mask.1 + set.1)

-- ---- payloads

-- the three numbers of a protocol header
abbrev pub version_slots : List Slot
version_slots =
    kept_slot (number_form bytes1) ∷ kept_slot (number_form bytes1)
    ∷ kept_slot (number_form bytes1) ∷ []

-- the fields of a method, where there is one
abbrev pub listed_known : Bool → ℕ → Option (List Slot) → Judge (List Node)
listed_known deep end None bytes = fault unknown_method
listed_known deep end (Some slots) bytes = listed_slots deep end 0 slots bytes

-- both ids, and the fields of that method
unfoldable pub listed_method : Bool → ℕ → Judge (List Node)
listed_method deep end payload = do
  class ← judge_number bytes2 payload
  id ← judge_number bytes2 (drop class.1 payload)
  listed_known deep end (slots_at class.0 id.0) (drop id.1 (drop class.1 payload))

-- the properties of a content header, in front of which class id, weight and body
-- size take 12 bytes
unfoldable pub listed_header : Bool → ℕ → Judge (List Node)
listed_header deep end payload = listed_properties deep end (drop 12 payload)

-- the fields of a whole payload, which ends at a place of the bytes in which spans are counted
unfoldable pub listed_payload : AMQPFrameType → Bool → ℕ → Judge (List Node)
listed_payload kinds.ProtocolHeader deep end payload = listed_slots deep end 0 version_slots payload
listed_payload kinds.Method deep end payload = listed_method deep end payload
listed_payload kinds.Header deep end payload = listed_header deep end payload
listed_payload kinds.Body deep end payload = took [] 0
listed_payload kinds.Heartbeat deep end payload = took [] 0

-- ---- what is given to a caller

-- the nodes, where some were listed
abbrev pub nodes_of : Judged (List Node) → List Node
nodes_of (took nodes used) = nodes
nodes_of past = []
nodes_of (fault bad) = []

-- the nodes of a whole payload, which ends at a place of the bytes in which spans are counted
abbrev pub payload_nodes : AMQPFrameType → Bool → ℕ → List ℕ → List Node
payload_nodes kind deep end payload = nodes_of (listed_payload kind deep end payload)

-- the nodes of things that fill some bytes, one after another, where these were listed
abbrev pub nodes_in : Result (List (List Node)) Fault → List Node
nodes_in (Ok groups) = joined groups
nodes_in (Err bad) = []

-- the nodes of the entries that fill a table, in the order of the wire, with all that lies
-- inside them
abbrev pub entries_nodes : List ℕ → List Node
entries_nodes content =
    nodes_in (filled (listed_entry (listed_value inner_depth) (length content)) 0 content)

-- the same of the values that fill an array
abbrev pub values_nodes : List ℕ → List Node
values_nodes content =
    nodes_in (filled (listed_value inner_depth (length content) blank) 0 content)
