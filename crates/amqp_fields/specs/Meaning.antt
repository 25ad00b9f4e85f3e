-- What nodes mean: which values (AMQP 0-9-1, section 4.2.5.5), and which fields of methods
-- and properties.
use Rattle.std.specs.Prelude.{◌≡◌, ◌≤◌, ℕ, zero, suc, ◌+◌, List, [], ◌∷◌, ◌++◌, length, take, drop}
use Rattle.std.specs.Prelude.{replicate, Bool, true, false, Option, Some, None, Ok, unwrap_or}
use Rattle.std.specs.Int.{w64, cast_unsigned}
use Rattle.amqp_types.specs.Judging.{Judge}
use Rattle.amqp_types.specs.Flags.{bit_of}
use Rattle.amqp_types.specs.Values.{FieldValue, Entry, boolean_value, signed_value}
use Rattle.amqp_types.specs.Values.{unsigned_value, decimal_value, bytes_value, array_value}
use Rattle.amqp_types.specs.Values.{table_value, void_value, items, pairs}
use Rattle.amqp_types.specs.ValueJudging.{filled, judge_entry, judge_value}
use Rattle.amqp_types.specs.Settling.{settled}
use Rattle.amqp_types.specs.Tags.{tag_byte, tag_of}
use Rattle.amqp_types.specs.Constants.{inner_depth}
use Rattle.amqp_types.specs.Slots.{Item, number_item, flag_item, text_item, bytes_item}
use Rattle.amqp_types.specs.Slots.{entries_item, Form, number_form, flags_form, short_string_form}
use Rattle.amqp_types.specs.Slots.{long_string_form, table_form, Slot, kept_slot, reserved_slot}
use Rattle.amqp_types.specs.Rows.{slots_at}
use Rattle.amqp_types.specs.Properties.{Property, properties}
use Rattle.amqp_wire.specs.Frames.{Frame, Proto, Meth, Head, Body, Beat, BadBeat}
use Rattle.amqp_fields.specs.declared.node.Node.{Node}
use Rattle.amqp_fields.specs.Kinds.{kind_of}

-- so many bytes of the payload from a place on are these
pub record IsSpan (payload : List ℕ) (start count : ℕ) (bytes : List ℕ) : Type 0 where
  pub within : start + count ≤ length payload
  pub bytes_are : take count (drop start payload) ≡ bytes

-- ---- nodes one after another, each with those that lie inside it

-- The first node, those inside it, and the others.
pub record IsGroup (Means : Node → List Node → Type 0)
    (Rest : List Node → Type 0) (nodes : List Node) : Type 0 where
  pub node : Node
  pub inside : List Node
  pub others : List Node
  pub nodes_are : nodes ≡ node ∷ (inside ++ others)
  pub inside_is : node.inside ≡ length inside
  pub means : Means node inside
  pub rest : Rest others

-- a node for each of these things, in their order
abbrev pub AreNodes : {A : Type 0} → (Node → List Node → A → Type 0) → List A → List Node → Type 0
AreNodes Means [] nodes = nodes ≡ []
AreNodes Means (x ∷ xs) nodes =
    IsGroup (λ node inside. Means node inside x) (λ others. AreNodes Means xs others) nodes

-- ---- values

-- it has no number
abbrev pub HasNoNumber : Node → Type 0
HasNoNumber node = (node.number ≡ 0) × (node.scale ≡ 0)

-- it has no span
abbrev pub HasNoBytes : Node → Type 0
HasNoBytes node = (node.start ≡ 0) × (node.length ≡ 0)

-- it has no key
abbrev pub HasNoKey : Node → Type 0
HasNoKey node = (node.key_start ≡ 0) × (node.key_length ≡ 0)

-- nothing lies inside it
abbrev pub IsLeaf : Node → List Node → Type 0
IsLeaf node inside = (node.items ≡ 0) × (inside ≡ [])

-- a number with so many digits behind the point
abbrev pub IsScaled : Node → List Node → ℕ → ℕ → Type 0
IsScaled node inside scale n =
    (node.number ≡ n) × (node.scale ≡ scale) × HasNoBytes node × IsLeaf node inside

-- a number
abbrev pub IsNumber : Node → List Node → ℕ → Type 0
IsNumber node inside n = IsScaled node inside 0 n

-- bytes
abbrev pub IsText : List ℕ → Node → List Node → List ℕ → Type 0
IsText payload node inside bytes =
    IsSpan payload node.start node.length bytes × HasNoNumber node × IsLeaf node inside

-- A node for each of the things that fill the content, and the node says how many they are.
abbrev pub AreInside : {A : Type 0} → (Node → List Node → A → Type 0)
    → Node → List Node → List A → Type 0
AreInside Means node inside xs = (node.items ≡ length xs) × AreNodes Means xs inside

-- an array, whose content the values fill
pub record IsArray (value : Judge FieldValue) (Inside : List FieldValue → Type 0)
    (payload : List ℕ) (node : Node) (values : List FieldValue) : Type 0 where
  pub content : List ℕ
  pub span : IsSpan payload node.start node.length content
  pub no_number : HasNoNumber node
  pub fills : filled value 0 content ≡ Ok values
  pub values_are : Inside values

-- A table, whose content some entries fill. These are listed as they stand; of duplicate keys
-- the last one wins.
pub record IsTable (value : Judge FieldValue) (Inside : List Entry → Type 0)
    (payload : List ℕ) (node : Node) (table : List Entry) : Type 0 where
  pub content : List ℕ
  pub span : IsSpan payload node.start node.length content
  pub no_number : HasNoNumber node
  pub entries : List Entry
  pub fills : filled (judge_entry value) 0 content ≡ Ok entries
  pub entries_are : Inside entries
  pub settles : table ≡ settled entries

-- a value, by what is an array and what a table
unfoldable pub Says : (List FieldValue → Type 0) → (List Entry → Type 0)
    → List ℕ → Node → List Node → FieldValue → Type 0
Says Array Table payload node inside (boolean_value b) = IsNumber node inside (bit_of b)
Says Array Table payload node inside (signed_value kind n) =
    IsNumber node inside (cast_unsigned w64 n)
Says Array Table payload node inside (unsigned_value kind n) = IsNumber node inside n
Says Array Table payload node inside (decimal_value scale n) = IsScaled node inside scale n
Says Array Table payload node inside (bytes_value kind bytes) = IsText payload node inside bytes
Says Array Table payload node inside (array_value vs) = Array (items vs)
Says Array Table payload node inside (table_value es) = Table (pairs es)
Says Array Table payload node inside void_value =
    HasNoNumber node × HasNoBytes node × IsLeaf node inside

-- an entry: the span of its key, and its value
abbrev pub MeansEntry : (Node → List Node → FieldValue → Type 0)
    → List ℕ → Node → List Node → Entry → Type 0
MeansEntry Means payload node inside e =
    IsSpan payload node.key_start node.key_length e.0 × Means node inside e.1

-- a value of an array
abbrev pub MeansElement : (Node → List Node → FieldValue → Type 0)
    → Node → List Node → FieldValue → Type 0
MeansElement Means node inside v = HasNoKey node × Means node inside v

-- what a value is where so many levels more may be nested; an array or table takes one of them
unfoldable pub SaysAt : ℕ → List ℕ → Node → List Node → FieldValue → Type 0
SaysAt zero payload node inside v = Says (λ values. ⊥) (λ table. ⊥) payload node inside v
SaysAt (suc depth_left) payload node inside v =
    let Means : Node → List Node → FieldValue → Type 0 = λ inner within value.
    (inner.kind ≡ tag_byte (tag_of value)) × (inner.place ≡ 0)
    × SaysAt depth_left payload inner within value in
    Says
    (IsArray (judge_value depth_left) (AreInside (MeansElement Means) node inside) payload node)
    (IsTable (judge_value depth_left)
    (AreInside (MeansEntry Means payload) node inside) payload node)
    payload node inside v

-- a value: its tag byte, no place among fields, and what it is
abbrev pub MeansValue : ℕ → List ℕ → Node → List Node → FieldValue → Type 0
MeansValue depth_left payload node inside v =
    (node.kind ≡ tag_byte (tag_of v)) × (node.place ≡ 0) × SaysAt depth_left payload node inside v

-- ---- fields

-- what is known of what lies inside a table
abbrev pub TableInside : Bool → List ℕ → Node → List Node → List Entry → Type 0
TableInside true payload node inside entries =
    AreInside (MeansEntry (MeansValue inner_depth payload) payload) node inside entries
TableInside false payload node inside entries = IsLeaf node inside

-- what a field gives; where `deep`, each table has its entries
abbrev pub MeansItem : Bool → List ℕ → Node → List Node → Item → Type 0
MeansItem deep payload node inside (number_item n) = IsNumber node inside n
MeansItem deep payload node inside (flag_item b) = IsNumber node inside (bit_of b)
MeansItem deep payload node inside (text_item text) = IsText payload node inside text
MeansItem deep payload node inside (bytes_item bytes) = IsText payload node inside bytes
MeansItem deep payload node inside (entries_item table) =
    IsTable (judge_value inner_depth) (TableInside deep payload node inside) payload node table

-- a field with its place and its kind
pub record Field : Type 0 where
  pub place : ℕ
  pub kind : ℕ
  pub item : Item

-- with these
abbrev pub field : ℕ → ℕ → Item → Field
field place kind item = record { place = place; kind = kind; item = item }

-- a field, with its place and its kind, and without a key
pub record MeansField (deep : Bool) (payload : List ℕ)
    (node : Node) (inside : List Node) (f : Field) : Type 0 where
  pub place_is : node.place ≡ f.place
  pub kind_is : node.kind ≡ f.kind
  pub no_key : HasNoKey node
  pub means : MeansItem deep payload node inside f.item

-- the kinds of what a form gives
abbrev pub kinds_of : Form → List ℕ
kinds_of (number_form width) = kind_of (number_form width) ∷ []
kinds_of (flags_form count) = replicate count (kind_of (flags_form count))
kinds_of short_string_form = kind_of short_string_form ∷ []
kinds_of long_string_form = kind_of long_string_form ∷ []
kinds_of table_form = kind_of table_form ∷ []

-- of fields, without reserved ones
abbrev pub kinds_in : List Slot → List ℕ
kinds_in [] = []
kinds_in (kept_slot form ∷ slots) = kinds_of form ++ kinds_in slots
kinds_in (reserved_slot form constant ∷ slots) = kinds_in slots

-- items with their kinds, at places from one on
abbrev pub fields_from : ℕ → List ℕ → List Item → List Field
fields_from place [] items = []
fields_from place (kind ∷ kinds) [] = []
fields_from place (kind ∷ kinds) (item ∷ items) =
    field place kind item ∷ fields_from (place + 1) kinds items

-- the property at a place, where it is set
abbrev pub set_field : ℕ → Property → Option Item → List Field
set_field place p None = []
set_field place p (Some item) = field place (kind_of p.form) item ∷ []

-- the properties that are set, each with its place among all of them, counted from one on
abbrev pub set_fields : ℕ → List Property → List (Option Item) → List Field
set_fields place [] options = []
set_fields place (p ∷ ps) [] = []
set_fields place (p ∷ ps) (option ∷ options) =
    set_field place p option ++ set_fields (place + 1) ps options

-- The fields of a frame: the three numbers of a protocol header, those of a method that are not
-- reserved, or the properties that are set. A body and a heartbeat have none.
unfoldable pub fields_of : Frame → List Field
fields_of (Proto major minor revision) =
    field 0 1 (number_item major) ∷ field 1 1 (number_item minor)
    ∷ field 2 1 (number_item revision) ∷ []
fields_of (Meth channel m) = fields_from 0 (kinds_in (unwrap_or (slots_at m.class m.id) [])) m.items
fields_of (Head channel header) = set_fields 0 properties header.options
fields_of (Body channel content) = []
fields_of Beat = []
fields_of (BadBeat channel) = []

-- the nodes of a frame with this payload
abbrev pub AreNodesOf : Bool → List ℕ → Frame → List Node → Type 0
AreNodesOf deep payload frame nodes = AreNodes (MeansField deep payload) (fields_of frame) nodes
