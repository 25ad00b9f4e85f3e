-- The bytes that heads and nodes make, or the first head or node that is refused,
-- from left to right.
use Rattle.amqp_fields_write.specs
use Rattle.amqp_types.specs as types
use Rattle.std.specs.Prelude.{ℕ, ◌+◌, ◌==◌, ◌&&◌, ◌||◌, nat_lt, nat_le, Bool, if◌then◌else◌, List}
use Rattle.std.specs.Prelude.{[], ◌∷◌, ◌++◌, length, take, drop, Option, Some, None, Result, Ok}
use Rattle.std.specs.Prelude.{Err}
use types.Numbers.{bytes2, bytes8, number_bytes}
use types.Slots.{Slot}
use types.Rows.{Row, rows_of, slots_at}
use types.Constants.{protocol_byte, method_byte, header_byte, body_byte, heartbeat_byte}
use types.Constants.{protocol_mark}
use types.Tags.{tag_byte}
use types.declared.tag.FieldTag.TheVariants as tag
use types.declared.errors.ParserError.{ParserError}
use types.declared.errors.ParserError.TheVariants as errors
use Rattle.amqp_wire.specs.Spelling.{framed}
use Rattle.amqp_fields.specs.declared.head.Head.{Head}
use Rattle.amqp_fields.specs.declared.node.Node.{Node}
use specs.declared.refusals.WriteError.{WriteError}
use specs.declared.refusals.WriteError.TheVariants as failures
use specs.declared.refusals.WriteRefusal.TheVariants as whys
use Rattle.amqp_fields.specs.Listed.{version_slots}
use specs.Made.{Made, after, misfit_head, refuse_head, span_in}
use specs.MadeFields.{made_properties, made_slots}

-- the nodes of a head, where the list has them
abbrev pub nodes_in : List Node → Head → Option (List Node)
nodes_in nodes head =
    if nat_le (head.first + head.nodes) (length nodes)
    then Some (take head.nodes (drop head.first nodes)) else None

-- what is made of them
abbrev pub made_own : (List Node → Made) → Option (List Node) → Made
made_own make None = misfit_head
made_own make (Some own) = make own

-- both ids are none of a method: which of them is unknown
abbrev pub unknown_in : Option (List Row) → ParserError
unknown_in None = errors.UnknownClass
unknown_in (Some rows) = errors.UnknownMethod

-- both ids, and the fields of the method
abbrev pub made_known : List ℕ → List Node → Head → Option (List Slot) → Made
made_known pool nodes head None =
    refuse_head (whys.Payload (unknown_in (rows_of head.class_id)))
made_known pool nodes head (Some slots) =
    if head.body_size == 0
    then made_own
    (λ own.
    after (Ok (number_bytes bytes2 head.class_id ++ number_bytes bytes2 head.method_id))
    (made_slots pool (head.first + head.nodes) 0 slots own))
    (nodes_in nodes head)
    else misfit_head

-- the payload of a method
unfoldable pub made_method : List ℕ → List Node → Head → Made
made_method pool nodes head = made_known pool nodes head (slots_at head.class_id head.method_id)

-- what stands in front of the properties of a content header: a class id, a weight of 0, the
-- size of the body
abbrev pub header_front : Head → List ℕ
header_front head =
    number_bytes bytes2 head.class_id
    ++ (number_bytes bytes2 0 ++ number_bytes bytes8 head.body_size)

-- the payload of a content header
unfoldable pub made_header : List ℕ → List Node → Head → Made
made_header pool nodes head =
    if head.method_id == 0
    then made_own
    (λ own. after (Ok (header_front head)) (made_properties pool (head.first + head.nodes) own))
    (nodes_in nodes head)
    else misfit_head

-- neither ids nor a body size
abbrev pub has_no_ids : Head → Bool
has_no_ids head = (head.class_id == 0) && (head.method_id == 0) && (head.body_size == 0)

-- the bytes of a body, where they lie within the pool
abbrev pub made_bytes : Option (List ℕ) → Made
made_bytes None = misfit_head
made_bytes (Some content) = Ok content

-- the payload of a body, which stands in the pool
unfoldable pub made_body : List ℕ → Head → Made
made_body pool head =
    if has_no_ids head && (head.nodes == 0)
    then made_bytes (span_in pool head.start head.length) else misfit_head

-- a heartbeat has none
unfoldable pub made_beat : Head → Made
made_beat head = if has_no_ids head && (head.nodes == 0) then Ok [] else misfit_head

-- a protocol header
unfoldable pub made_version : List ℕ → List Node → Head → Made
made_version pool nodes head =
    if has_no_ids head && (head.channel == 0)
    then made_own
    (λ own.
    after (Ok (protocol_byte ∷ protocol_mark))
    (made_slots pool (head.first + head.nodes) 0 version_slots own))
    (nodes_in nodes head)
    else misfit_head

-- the payload of a frame that is no protocol header
unfoldable pub made_payload : List ℕ → List Node → Head → Made
made_payload pool nodes head =
    if head.frame_type == method_byte then made_method pool nodes head
    else (if head.frame_type == header_byte then made_header pool nodes head
    else (if head.frame_type == body_byte then made_body pool head
    else (if head.frame_type == heartbeat_byte then made_beat head else misfit_head)))

-- a frame around a payload of at most m bytes
abbrev pub made_around : ℕ → Head → Made → Made
made_around m head (Ok payload) =
    if nat_lt m (length payload) then refuse_head whys.TooLarge
    else Ok (framed head.frame_type head.channel payload)
made_around m head (Err bad) = Err bad

-- nothing lies inside a table or an array, by the kind of a field or the tag of a value: its
-- content stands in the pool as bytes
abbrev pub is_given : Node → Bool
is_given node =
    (node.inside == 0)
    && ((node.kind == 8)
    || ((node.kind == tag_byte tag.FieldArray) || (node.kind == tag_byte tag.FieldTable)))

-- how many bytes such contents of some nodes have
unfoldable pub given_length : List Node → ℕ
given_length [] = 0
given_length (node ∷ nodes) = (if is_given node then node.length else 0) + given_length nodes

-- those of the nodes of a head alone have more than m bytes
abbrev pub are_beyond : ℕ → List Node → Head → Bool
are_beyond m nodes head = nat_lt m (given_length (take head.nodes (drop head.first nodes)))

-- a frame, by its type; where contents that are given as bytes alone are too large, the payload is
-- not looked at
unfoldable pub made_typed : List ℕ → List Node → ℕ → Head → Made
made_typed pool nodes m head =
    if head.frame_type == protocol_byte then made_version pool nodes head
    else (if are_beyond m nodes head then refuse_head whys.TooLarge
    else made_around m head (made_payload pool nodes head))

-- its numbers are within the widths of their members, as those of each head of a program are
abbrev pub is_held : Head → Bool
is_held head =
    nat_lt head.channel 65536 && nat_lt head.class_id 65536
    && nat_lt head.method_id 65536 && nat_lt head.body_size 18446744073709551616

-- a frame
unfoldable pub made_frame : List ℕ → List Node → ℕ → Head → Made
made_frame pool nodes m head = if is_held head then made_typed pool nodes m head else misfit_head

-- a refusal within the frame of a head
abbrev pub at_head : ℕ → Made → Result (List ℕ) WriteError
at_head k (Ok bytes) = Ok bytes
at_head k (Err bad) = Err (failures.Refused k bad.node bad.why)

-- frames, one after another; k counts the heads before them
unfoldable pub made_frames : List ℕ → List Node → ℕ → ℕ → List Head → Result (List ℕ) WriteError
made_frames pool nodes m k [] = Ok []
made_frames pool nodes m k (head ∷ heads) =
    after (at_head k (made_frame pool nodes m head)) (made_frames pool nodes m (k + 1) heads)
