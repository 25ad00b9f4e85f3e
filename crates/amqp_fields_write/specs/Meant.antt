-- What heads and nodes mean from which frames are written: values (AMQP 0-9-1, section 4.2.5.5),
-- fields and frames. Members that are not named here may be any.
use Rattle.amqp_types.specs as types
use Rattle.std.specs.Prelude.{◌≡◌, ◌<◌, ◌≤◌, ◌^◌, ◌+◌, ℕ, zero, suc, ℤ, List, [], ◌∷◌, length, take}
use Rattle.std.specs.Prelude.{drop, true, Some, Ok, ◌==◌, if◌then◌else◌}
use Rattle.std.specs.Int.{w64, cast_signed, cast_unsigned}
use Rattle.std.specs.Str.{IsUtf8}
use types.Judging.{Judge}
use types.Numbers.{NumberWidth, number_limit, width_of}
use types.Flags.{bit_of}
use types.Values.{FieldValue, Entry, boolean_value, signed_value, unsigned_value, decimal_value}
use types.Values.{bytes_value, array_value, table_value, void_value, items, pairs}
use types.ValueBytes.{signed_width, unsigned_width}
use types.ValueJudging.{filled, judge_entry, judge_value}
use types.Settling.{settled}
use types.Tags.{tag_byte, tag_of}
use types.Constants.{inner_depth, protocol_byte, method_byte, header_byte, body_byte}
use types.Constants.{heartbeat_byte}
use types.Slots.{Item, number_item, flag_item, text_item, bytes_item, entries_item, Slot}
use types.Rows.{slots_at}
use types.Properties.{properties}
use types.Methods.{Method}
use Rattle.amqp_wire.specs.Frames.{Frame, Proto, Meth, Head, Body, Beat, BadBeat}
use Rattle.amqp_fields.specs.declared.head.Head as given
use Rattle.amqp_fields.specs.declared.node.Node.{Node}
use Rattle.amqp_fields_write.specs.MadeFrames.{is_held}
use Rattle.amqp_fields.specs.Meaning.{AreNodes, Field, IsSpan, fields_of, kinds_in}

-- ---- values

-- the number stands for a signed one, within its width, in two's complement of 64 bits
pub record IsSigned (width : NumberWidth) (number : ℕ) (n : ℤ) : Type 0 where
  pub bits : ℕ
  pub fits : bits < number_limit width
  pub means : n ≡ cast_signed (width_of width) bits
  pub number_is : number ≡ cast_unsigned w64 n

-- content that stands in the pool as bytes, and which these things fill
pub record IsGiven {A : Type 0} (judge : Judge A) (pool : List ℕ)
    (node : Node) (things : List A) : Type 0 where
  pub content : List ℕ
  pub span : IsSpan pool node.start node.length content
  pub fills : filled judge 0 content ≡ Ok things

-- what fills a table or an array: content that stands in the pool, where nothing lies inside, and
-- else what lies inside
abbrev pub Holds : {A : Type 0} → Judge A → (List A → List Node → Type 0)
    → List ℕ → Node → List Node → List A → Type 0
Holds judge Inside pool node [] things = IsGiven judge pool node things
Holds judge Inside pool node (first ∷ others) things = Inside things (first ∷ others)

-- a table, of whose entries the last one with each key counts
pub record HoldsTable (Entries : List Entry → Type 0) (table : List Entry) : Type 0 where
  pub entries : List Entry
  pub holds : Entries entries
  pub settles : table ≡ settled entries

-- a value, by what is an array and what a table
unfoldable pub Tells : (List FieldValue → Type 0) → (List Entry → Type 0)
    → List ℕ → Node → List Node → FieldValue → Type 0
Tells Array Table pool node inside (boolean_value b) = (node.number ≡ bit_of b) × (inside ≡ [])
Tells Array Table pool node inside (signed_value kind n) =
    IsSigned (signed_width kind) node.number n × (inside ≡ [])
Tells Array Table pool node inside (unsigned_value kind n) =
    (n < number_limit (unsigned_width kind)) × (node.number ≡ n) × (inside ≡ [])
Tells Array Table pool node inside (decimal_value scale n) =
    (scale < 2 ^ 8) × (n < 2 ^ 32) × (node.scale ≡ scale) × (node.number ≡ n) × (inside ≡ [])
Tells Array Table pool node inside (bytes_value kind bytes) =
    IsSpan pool node.start node.length bytes × (inside ≡ [])
Tells Array Table pool node inside (array_value vs) = Array (items vs)
Tells Array Table pool node inside (table_value es) = Table (pairs es)
Tells Array Table pool node inside void_value = inside ≡ []

-- an entry: the span of its key, a text of at most 255 bytes, and its value
pub record TellsEntry (Value : Node → List Node → FieldValue → Type 0)
    (pool : List ℕ) (node : Node) (inside : List Node) (e : Entry) : Type 0 where
  pub key : IsSpan pool node.key_start node.key_length e.0
  pub short : length e.0 < 256
  pub utf8 : IsUtf8 e.0
  pub value : Value node inside e.1

-- what a value is where so many levels more may be nested; an array or a table takes one of them
unfoldable pub TellsAt : ℕ → List ℕ → Node → List Node → FieldValue → Type 0
TellsAt zero pool node inside v = Tells (λ values. ⊥) (λ table. ⊥) pool node inside v
TellsAt (suc depth_left) pool node inside v =
    let Value : Node → List Node → FieldValue → Type 0 = λ inner within value.
    (inner.kind ≡ tag_byte (tag_of value)) × TellsAt depth_left pool inner within value in
    Tells
    (Holds (judge_value depth_left) (λ values nodes. AreNodes Value values nodes) pool node inside)
    (HoldsTable (Holds (judge_entry (judge_value depth_left))
    (λ entries nodes. AreNodes (TellsEntry Value pool) entries nodes) pool node inside))
    pool node inside v

-- a value: its tag byte, and what it is
abbrev pub TellsValue : ℕ → List ℕ → Node → List Node → FieldValue → Type 0
TellsValue depth_left pool node inside v =
    (node.kind ≡ tag_byte (tag_of v)) × TellsAt depth_left pool node inside v

-- ---- fields

-- the first number that a field of a kind does not hold
abbrev pub kind_limit : ℕ → ℕ
kind_limit kind =
    if kind == 1 then 2 ^ 8
    else (if kind == 2 then 2 ^ 16
    else (if kind == 3 then 2 ^ 32 else (if kind == 4 then 2 ^ 64 else 0)))

-- what a field of a kind gives
abbrev pub TellsItem : List ℕ → ℕ → Node → List Node → Item → Type 0
TellsItem pool kind node inside (number_item n) =
    (n < kind_limit kind) × (node.number ≡ n) × (inside ≡ [])
TellsItem pool kind node inside (flag_item b) =
    (kind ≡ 5) × (node.number ≡ bit_of b) × (inside ≡ [])
TellsItem pool kind node inside (text_item text) =
    (kind ≡ 6) × IsSpan pool node.start node.length text
    × (length text < 256) × IsUtf8 text × (inside ≡ [])
TellsItem pool kind node inside (bytes_item bytes) =
    (kind ≡ 7) × IsSpan pool node.start node.length bytes × (inside ≡ [])
TellsItem pool kind node inside (entries_item table) =
    (kind ≡ 8)
    × HoldsTable
    (Holds (judge_entry (judge_value inner_depth))
    (λ entries nodes. AreNodes (TellsEntry (TellsValue inner_depth pool) pool) entries nodes)
    pool node inside)
    table

-- a field, with its place and its kind
pub record TellsField (pool : List ℕ) (node : Node) (inside : List Node) (f : Field) : Type 0 where
  pub place_is : node.place ≡ f.place
  pub kind_is : node.kind ≡ f.kind
  pub tells : TellsItem pool f.kind node inside f.item

-- ---- frames

-- so many nodes from a place on are the fields of the frame
pub record TellsFields (pool : List ℕ) (nodes : List Node)
    (first count : ℕ) (frame : Frame) : Type 0 where
  pub within : first + count ≤ length nodes
  pub fields : AreNodes (TellsField pool) (fields_of frame) (take count (drop first nodes))

-- neither ids nor a body size
abbrev pub HasNoIds : given.Head → Type 0
HasNoIds head = (head.class_id ≡ 0) × (head.method_id ≡ 0) × (head.body_size ≡ 0)

-- the method is in the table, and gives an item for each of its fields that are not reserved
pub record IsMethod (m : Method) : Type 0 where
  pub slots : List Slot
  pub known : slots_at m.class m.id ≡ Some slots
  pub number : length m.items ≡ length (kinds_in slots)

-- a head, with the nodes of its fields or the span of its body
abbrev pub TellsTyped : List ℕ → List Node → given.Head → Frame → Type 0
TellsTyped pool nodes head (Proto major minor revision) =
    (head.frame_type ≡ protocol_byte) × (head.channel ≡ 0) × HasNoIds head
    × TellsFields pool nodes head.first head.nodes (Proto major minor revision)
TellsTyped pool nodes head (Meth channel m) =
    (head.frame_type ≡ method_byte) × (head.channel ≡ channel)
    × (head.class_id ≡ m.class) × (head.method_id ≡ m.id) × (head.body_size ≡ 0)
    × IsMethod m × TellsFields pool nodes head.first head.nodes (Meth channel m)
TellsTyped pool nodes head (Head channel header) =
    (head.frame_type ≡ header_byte) × (head.channel ≡ channel)
    × (head.class_id ≡ header.class_id) × (head.method_id ≡ 0)
    × (head.body_size ≡ header.body_size) × (length header.options ≡ length properties)
    × TellsFields pool nodes head.first head.nodes (Head channel header)
TellsTyped pool nodes head (Body channel content) =
    (head.frame_type ≡ body_byte) × (head.channel ≡ channel) × HasNoIds head
    × (head.nodes ≡ 0) × IsSpan pool head.start head.length content
TellsTyped pool nodes head Beat =
    (head.frame_type ≡ heartbeat_byte) × (head.channel ≡ 0) × HasNoIds head × (head.nodes ≡ 0)
TellsTyped pool nodes head (BadBeat channel) =
    (head.frame_type ≡ heartbeat_byte) × (head.channel ≡ channel)
    × (0 < channel) × HasNoIds head × (head.nodes ≡ 0)

-- the same of a head whose numbers are within the widths of their members
abbrev pub TellsFrame : List ℕ → List Node → given.Head → Frame → Type 0
TellsFrame pool nodes head frame = (is_held head ≡ true) × TellsTyped pool nodes head frame

-- a head for each frame, in their order
abbrev pub TellFrames : List ℕ → List Node → List given.Head → List Frame → Type 0
TellFrames pool nodes [] [] = Unit {0}
TellFrames pool nodes [] (frame ∷ frames) = ⊥
TellFrames pool nodes (head ∷ heads) [] = ⊥
TellFrames pool nodes (head ∷ heads) (frame ∷ frames) =
    TellsFrame pool nodes head frame × TellFrames pool nodes heads frames
