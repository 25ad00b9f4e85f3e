-- The bytes that nodes make, or the first node that is refused, from left to right. A node stands
-- with those inside it; these end at a place among all nodes.
use Rattle.amqp_fields_write.specs
use Rattle.amqp_types.specs as types
use Rattle.std.specs.Prelude.{ℕ, zero, suc, ◌+◌, ◌-◌, ◌^◌, ◌%◌, ◌==◌, ◌||◌, ◌&&◌, nat_lt, nat_le}
use Rattle.std.specs.Prelude.{Bool, true, false, if◌then◌else◌, List, [], ◌∷◌, ◌++◌, length, take}
use Rattle.std.specs.Prelude.{drop, Option, Some, None, Result, Ok, Err}
use Rattle.std.specs.Str.{is_utf8}
use types.Judging.{Judge, Fault, unknown_frame_type, bad_protocol_header, too_large, bad_frame_end}
use types.Judging.{unknown_class, unknown_method, short_payload, trailing_bytes, not_utf8}
use types.Judging.{unknown_tag, too_deep, not_tidy}
use types.Numbers.{NumberWidth, bytes1, bytes2, bytes4, bytes8, number_bytes, number_limit}
use types.Strings.{short_string_bytes, with_length, is_too_long}
use types.ValueJudging.{filled, judge_entry, judge_value}
use types.Tags.{tag_at, tag_byte}
use types.declared.tag.FieldTag.{FieldTag}
use types.declared.tag.FieldTag.TheVariants as tag
use types.declared.errors.ParserError.{ParserError}
use types.declared.errors.ParserError.TheVariants as errors
use Rattle.amqp_fields.specs.declared.node.Node.{Node}
use specs.declared.refusals.Refusal.{Refusal}
use specs.declared.refusals.WriteRefusal.{WriteRefusal}
use specs.declared.refusals.WriteRefusal.TheVariants as whys

-- bytes, or which node is refused and why
abbrev pub Made : Type 0
Made = Result (List ℕ) Refusal

-- a node, and why it is refused
abbrev pub refusal : ℕ → WriteRefusal → Refusal
refusal node why = record { node = Some node; why = why }

-- why a head itself is refused, or a content as a whole, and no node
abbrev pub refusal_of_head : WriteRefusal → Refusal
refusal_of_head why = record { node = None; why = why }

-- a node is refused
abbrev pub refuse : {A : Type 0} → ℕ → WriteRefusal → Result A Refusal
refuse node why = Err (refusal node why)

-- a head is refused, or a content as a whole
abbrev pub refuse_head : {A : Type 0} → WriteRefusal → Result A Refusal
refuse_head why = Err (refusal_of_head why)

-- a member of it is not what it has to be
abbrev pub misfit : {A : Type 0} → ℕ → Result A Refusal
misfit node = refuse node whys.BadArgument

-- a member of a head is not
abbrev pub misfit_head : {A : Type 0} → Result A Refusal
misfit_head = refuse_head whys.BadArgument

-- as decoding has it
abbrev pub faulty : {A : Type 0} → ℕ → ParserError → Result A Refusal
faulty node error = refuse node (whys.Payload error)

-- one after another; the first refusal counts
abbrev pub after : {E : Type 0} → Result (List ℕ) E → Result (List ℕ) E → Result (List ℕ) E
after (Ok first) (Ok second) = Ok (first ++ second)
after (Ok first) (Err bad) = Err bad
after (Err bad) second = Err bad

-- these bytes where a test holds
abbrev pub made_if : Bool → ℕ → List ℕ → Made
made_if true node bytes = Ok bytes
made_if false node bytes = misfit node

-- ---- numbers and strings

-- an unsigned number, where it is one of the width
abbrev pub made_number : NumberWidth → ℕ → ℕ → Made
made_number width node n =
    made_if (nat_lt n (number_limit width)) node (number_bytes width (n % number_limit width))

-- half of the numbers of a width, which is the first that is no signed one
abbrev pub half_limit : NumberWidth → ℕ
half_limit bytes1 = 2 ^ 7
half_limit bytes2 = 2 ^ 15
half_limit bytes4 = 2 ^ 31
half_limit bytes8 = 2 ^ 63

-- a number in two's complement of 64 bits is one of a width
abbrev pub is_signed : NumberWidth → ℕ → Bool
is_signed width n =
    nat_lt n (half_limit width) || (nat_le (2 ^ 64 - half_limit width) n && nat_lt n (2 ^ 64))

-- its lowest bits
abbrev pub made_signed : NumberWidth → ℕ → ℕ → Made
made_signed width node n =
    made_if (is_signed width n) node (number_bytes width (n % number_limit width))

-- 0 or 1
abbrev pub made_truth : ℕ → ℕ → Made
made_truth node n = made_if (nat_lt n 2) node (number_bytes bytes1 (n % 2 ^ 8))

-- the bytes of a span, where it lies within the pool
abbrev pub span_in : List ℕ → ℕ → ℕ → Option (List ℕ)
span_in pool start count =
    if nat_le (start + count) (length pool) then Some (take count (drop start pool)) else None

-- what is made of the bytes of a span
abbrev pub made_span : (List ℕ → Made) → ℕ → Option (List ℕ) → Made
made_span make node None = misfit node
made_span make node (Some bytes) = make bytes

-- a length of 1 byte, and a text
abbrev pub made_text : ℕ → List ℕ → Made
made_text node text =
    if nat_lt 255 (length text) then refuse node whys.TooLong
    else (if is_utf8 text then Ok (short_string_bytes text) else faulty node errors.NotUtf8)

-- a length of 4 bytes, and bytes
abbrev pub made_long : ℕ → List ℕ → Made
made_long node bytes =
    if is_too_long bytes then refuse node whys.TooLong else Ok (with_length bytes)

-- ---- tables and arrays

-- the error of a fault
abbrev pub error_of : Fault → ParserError
error_of unknown_frame_type = errors.UnknownFrameType
error_of bad_protocol_header = errors.BadProtocolHeader
error_of too_large = errors.Incomplete
error_of bad_frame_end = errors.BadFrameEnd
error_of unknown_class = errors.UnknownClass
error_of unknown_method = errors.UnknownMethod
error_of short_payload = errors.ShortPayload
error_of trailing_bytes = errors.TrailingBytes
error_of not_utf8 = errors.NotUtf8
error_of unknown_tag = errors.UnknownTag
error_of too_deep = errors.TooDeep
error_of not_tidy = errors.Incomplete

-- content that stands in the pool, where something fills it
abbrev pub made_given : {A : Type 0} → ℕ → List ℕ → Result (List A) Fault → Made
made_given node content (Ok things) = made_long node content
made_given node content (Err bad) = faulty node (error_of bad)

-- content that stands in the pool, which a node has by its span
abbrev pub made_content : {A : Type 0} → Judge A → List ℕ → ℕ → Node → Made
made_content item pool index node =
    made_span (λ content. made_given index content (filled item 0 content)) index
    (span_in pool node.start node.length)

-- what is made of a node and of those inside it, which end at a place
abbrev pub Maker : Type 0
Maker = ℕ → Node → List Node → Made

-- which one of all nodes it is
abbrev pub own_index : ℕ → List Node → ℕ
own_index end inside = end - length inside - 1

-- what nodes make, one after another, each with those inside it. The number counts the nodes of the
-- one before that are still to be passed.
unfoldable pub made_each : Maker → ℕ → ℕ → List Node → Made
made_each make end k [] = Ok []
made_each make end (suc k) (node ∷ nodes) = made_each make end k nodes
made_each make end zero (node ∷ nodes) =
    if nat_lt (length nodes) node.inside then misfit (end - length (node ∷ nodes))
    else after (make (end - length (drop node.inside nodes)) node (take node.inside nodes))
    (made_each make end node.inside nodes)

-- a length of 4 bytes, and what was made
abbrev pub closed : ℕ → Made → Made
closed node (Ok content) = made_long node content
closed node (Err bad) = Err bad

-- what fills a table or an array: content that stands in the pool, where nothing lies inside, and
-- else what is made of the nodes inside
unfoldable pub made_items : {A : Type 0} → Judge A → Maker → List ℕ → Maker
made_items item make pool end node [] = made_content item pool (own_index end []) node
made_items item make pool end node (first ∷ others) =
    closed (own_index end (first ∷ others)) (made_each make end 0 (first ∷ others))

-- an entry: its key, and its value
unfoldable pub made_entry : List ℕ → Maker → Maker
made_entry pool value end node inside =
    after
    (made_span (made_text (own_index end inside)) (own_index end inside)
    (span_in pool node.key_start node.key_length))
    (value end node inside)

-- an array, in whose values tables and arrays may nest so deep
abbrev pub made_array : List ℕ → ℕ → Maker → Maker
made_array pool depth_left value = made_items (judge_value depth_left) value pool

-- a table, in whose values tables and arrays may nest so deep
abbrev pub made_table : List ℕ → ℕ → Maker → Maker
made_table pool depth_left value =
    made_items (judge_entry (judge_value depth_left)) (made_entry pool value) pool

-- ---- values

-- what has a tag and is neither a table nor an array
unfoldable pub made_leaf : List ℕ → ℕ → Node → FieldTag → Made
made_leaf pool index node tag.Boolean = made_truth index node.number
made_leaf pool index node tag.ShortShortInt = made_signed bytes1 index node.number
made_leaf pool index node tag.ShortShortUInt = made_number bytes1 index node.number
made_leaf pool index node tag.ShortInt = made_signed bytes2 index node.number
made_leaf pool index node tag.ShortUInt = made_number bytes2 index node.number
made_leaf pool index node tag.LongInt = made_signed bytes4 index node.number
made_leaf pool index node tag.LongUInt = made_number bytes4 index node.number
made_leaf pool index node tag.LongLongInt = made_number bytes8 index node.number
made_leaf pool index node tag.Float = made_number bytes4 index node.number
made_leaf pool index node tag.Double = made_number bytes8 index node.number
made_leaf pool index node tag.DecimalValue =
    after (made_number bytes1 index node.scale) (made_number bytes4 index node.number)
made_leaf pool index node tag.LongString =
    made_span (made_long index) index (span_in pool node.start node.length)
made_leaf pool index node tag.FieldArray = misfit index
made_leaf pool index node tag.Timestamp = made_number bytes8 index node.number
made_leaf pool index node tag.FieldTable = misfit index
made_leaf pool index node tag.ByteArray =
    made_span (made_long index) index (span_in pool node.start node.length)
made_leaf pool index node tag.Void = Ok []

-- nothing lies inside
abbrev pub made_alone : Made → ℕ → List Node → Made
made_alone made index [] = made
made_alone made index (first ∷ others) = misfit index

-- how a value one level deeper is made, where so many more may be nested
abbrev pub Nested : Type 0
Nested = Option (ℕ × Maker)

-- an array, where one more may be nested
abbrev pub nested_array : List ℕ → Nested → Maker
nested_array pool None end node inside = faulty (own_index end inside) errors.TooDeep
nested_array pool (Some nested) end node inside = made_array pool nested.0 nested.1 end node inside

-- the same of a table
abbrev pub nested_table : List ℕ → Nested → Maker
nested_table pool None end node inside = faulty (own_index end inside) errors.TooDeep
nested_table pool (Some nested) end node inside = made_table pool nested.0 nested.1 end node inside

-- the value after a tag
unfoldable pub made_behind : List ℕ → Nested → FieldTag → Maker
made_behind pool nested tag.FieldArray end node inside = nested_array pool nested end node inside
made_behind pool nested tag.FieldTable end node inside = nested_table pool nested end node inside
made_behind pool nested t end node inside =
    made_alone (made_leaf pool (own_index end inside) node t) (own_index end inside) inside

-- a value whose kind is a tag that is written
abbrev pub made_known : List ℕ → Nested → Option FieldTag → Maker
made_known pool nested None end node inside = misfit (own_index end inside)
made_known pool nested (Some t) end node inside =
    if tag_byte t == node.kind
    then after (Ok (tag_byte t ∷ [])) (made_behind pool nested t end node inside)
    else misfit (own_index end inside)

-- a tag and its value
unfoldable pub made_tagged : List ℕ → Nested → Maker
made_tagged pool nested end node inside = made_known pool nested (tag_at node.kind) end node inside

-- a value one level deeper, where so many more may be nested
unfoldable pub made_nested : List ℕ → ℕ → Nested
made_nested pool zero = None
made_nested pool (suc depth_left) =
    Some (depth_left, made_tagged pool (made_nested pool depth_left))

-- a tag and its value, in which tables and arrays may nest so deep
unfoldable pub made_value : List ℕ → ℕ → Maker
made_value pool depth_left = made_tagged pool (made_nested pool depth_left)
