-- The bytes that the nodes of fields make, or the first node that is refused, from left to right.
use Rattle.amqp_fields_write.specs
use Rattle.amqp_types.specs as types
use Rattle.std.specs.Prelude.{ℕ, zero, suc, ◌+◌, ◌-◌, ◌^◌, ◌==◌, ◌&&◌, nat_lt, nat_le, Bool, false}
use Rattle.std.specs.Prelude.{if◌then◌else◌, List, [], ◌∷◌, length, take, drop, Option, Some, None}
use Rattle.std.specs.Prelude.{Result, Ok, Err}
use types.Numbers.{bytes2, number_bytes}
use types.Flags.{flags_bytes}
use types.Constants.{inner_depth}
use types.Slots.{Item, number_item, Form, number_form, flags_form, short_string_form}
use types.Slots.{long_string_form, table_form, Slot, kept_slot, reserved_slot}
use types.SlotBytes.{form_bytes}
use types.Properties.{Property, properties}
use types.PropertyBytes.{mask_of}
use Rattle.amqp_fields.specs.declared.node.Node.{Node}
use specs.declared.refusals.Refusal.{Refusal}
use Rattle.amqp_fields.specs.Kinds.{kind_of}
use Rattle.amqp_fields.specs.Listed.{kept_count, next_place}
use specs.Made.{Made, after, made_alone, made_long, made_number, made_span, made_table, made_text}
use specs.Made.{made_value, misfit, own_index, span_in}

-- ---- fields

-- what is encoded so, and is neither flags nor a table
unfoldable pub made_plain : List ℕ → ℕ → Form → Node → Made
made_plain pool index (number_form width) node = made_number width index node.number
made_plain pool index (flags_form count) node = misfit index
made_plain pool index short_string_form node =
    made_span (made_text index) index (span_in pool node.start node.length)
made_plain pool index long_string_form node =
    made_span (made_long index) index (span_in pool node.start node.length)
made_plain pool index table_form node = misfit index

-- what is encoded so, and is no flags; tables and arrays may nest 63 deep in the values of a table
unfoldable pub made_form : List ℕ → Form → ℕ → Node → List Node → Made
made_form pool table_form end node inside =
    made_table pool inner_depth (made_value pool inner_depth) end node inside
made_form pool form end node inside =
    made_alone (made_plain pool (own_index end inside) form node) (own_index end inside) inside

-- the node is of the kind and at the place of a field
abbrev pub is_field : ℕ → Form → Node → Bool
is_field place form node = (node.kind == kind_of form) && (node.place == place)

-- the field at a place, which is the first of the nodes with those inside it
unfoldable pub made_field : List ℕ → ℕ → ℕ → Form → List Node → Made
made_field pool end place form [] = misfit end
made_field pool end place form (node ∷ others) =
    if nat_lt (length others) node.inside then misfit (end - length (node ∷ others))
    else (if is_field place form node
    then made_form pool form (end - length (drop node.inside others)) node (take node.inside others)
    else misfit (end - length (node ∷ others)))

-- the node is a flag at a place
abbrev pub is_flag : ℕ → Node → Bool
is_flag place node =
    is_field place (flags_form 1) node && (node.inside == 0) && nat_lt node.number 2

-- a flag in front of others
abbrev pub flag_before : ℕ → Result (List Bool) Refusal → Result (List Bool) Refusal
flag_before number (Ok flags) = Ok ((number == 1) ∷ flags)
flag_before number (Err bad) = Err bad

-- so many flags at places from one on, which are the first of the nodes
unfoldable pub flags_in : ℕ → ℕ → ℕ → List Node → Result (List Bool) Refusal
flags_in end place zero nodes = Ok []
flags_in end place (suc count) [] = misfit end
flags_in end place (suc count) (node ∷ nodes) =
    if is_flag place node
    then flag_before node.number (flags_in end (next_place place 1) count nodes)
    else misfit (end - length (node ∷ nodes))

-- the byte of flags
abbrev pub flags_made : Result (List Bool) Refusal → Made
flags_made (Ok flags) = Ok (flags_bytes flags)
flags_made (Err bad) = Err bad

-- a byte of flags, of which it has eight at most
abbrev pub made_flags : ℕ → ℕ → ℕ → List Node → Made
made_flags end place count nodes =
    if nat_le count 8 then flags_made (flags_in end place count nodes)
    else misfit (end - length nodes)

-- a field that is kept
unfoldable pub made_kept : List ℕ → ℕ → ℕ → Form → List Node → Made
made_kept pool end place (flags_form count) nodes = made_flags end place count nodes
made_kept pool end place form nodes = made_field pool end place form nodes

-- a field, which is the first of the nodes, or the constant of a reserved one
abbrev pub made_slot : List ℕ → ℕ → ℕ → Slot → List Node → Made
made_slot pool end place (kept_slot form) nodes = made_kept pool end place form nodes
made_slot pool end place (reserved_slot form constant) nodes = Ok (form_bytes form constant)

-- how many nodes the first one is with those inside it
abbrev pub group_size : List Node → ℕ
group_size [] = 0
group_size (node ∷ nodes) = 1 + node.inside

-- how many of the nodes a field has, with those inside them
abbrev pub node_count : Slot → List Node → ℕ
node_count (kept_slot (flags_form count)) nodes = count
node_count (kept_slot form) nodes = group_size nodes
node_count (reserved_slot form constant) nodes = 0

-- no nodes are left
abbrev pub made_none : ℕ → List Node → Made
made_none end [] = Ok []
made_none end (node ∷ nodes) = misfit (end - length (node ∷ nodes))

-- fields, one after another, from a place on
unfoldable pub made_slots : List ℕ → ℕ → ℕ → List Slot → List Node → Made
made_slots pool end place [] nodes = made_none end nodes
made_slots pool end place (slot ∷ slots) nodes =
    after (made_slot pool end place slot nodes) (made_slots pool end
    (next_place place (kept_count slot)) slots (drop (node_count slot nodes) nodes))

-- ---- properties

-- the first of the nodes is at a place
abbrev pub is_next : ℕ → List Node → Bool
is_next place [] = false
is_next place (node ∷ nodes) = node.place == place

-- which properties are set, from a place on: those at whose places the nodes are
unfoldable pub set_at : ℕ → List Property → List Node → List (Option Item)
set_at place [] nodes = []
set_at place (p ∷ ps) nodes =
    if is_next place nodes
    then Some (number_item 0) ∷ set_at (next_place place 1) ps (drop (group_size nodes) nodes)
    else None ∷ set_at (next_place place 1) ps nodes

-- the properties that are set, from a place on
unfoldable pub made_set : List ℕ → ℕ → ℕ → List Property → List Node → Made
made_set pool end place [] nodes = made_none end nodes
made_set pool end place (p ∷ ps) nodes =
    if is_next place nodes
    then after (made_field pool end place p.form nodes)
    (made_set pool end (next_place place 1) ps (drop (group_size nodes) nodes))
    else made_set pool end (next_place place 1) ps nodes

-- what all bits of properties are worth together
abbrev pub worths : List Property → ℕ
worths [] = 0
worths (p ∷ ps) = 2 ^ p.bit + worths ps

-- the mask, and the properties that are set
unfoldable pub made_properties : List ℕ → ℕ → List Node → Made
made_properties pool end nodes =
    after (Ok (number_bytes bytes2 (mask_of properties (set_at 0 properties nodes))))
    (made_set pool end 0 properties nodes)
