-- What is made of the nodes of fields is of items that they mean, and fields that are meant are made, unless a content is too long.
use Rattle.amqp_fields_write.proofs
use Rattle.amqp_fields_write.specs
use Rattle.amqp_types.specs as types
use proofs.Names.{◌≡◌, ℕ, zero, suc, ◌+◌, ◌-◌, ◌<◌, ◌≤◌, ◌^◌, ◌==◌, Bool, true, false, List, [], ◌∷◌, ◌++◌, length, map, replicate, take, drop, Ok, refl, sym}
use proofs.Names.{ap, ap₂, subst, ◌∙◌, arith, nat_lt, nat_le, if◌then◌else◌, inl, Result, Err, numbers, drop_at, length-append, length-replicate}
use proofs.Names.{take-append-drop, take_at, length-map, length-take-le, pow_mono, Level, IsBytes, number_limit, bit_of, flags_byte, flags_bytes, flags_from}
use proofs.Names.{inner_depth, Node, Refusal, StandsFirst, kept_count, next_place, flag_before, flags_in, group_size, is_flag, made_field, made_none, made_slot}
use proofs.Names.{made_slots, node_count, AreNodes, byte_below, given_length, NumberWidth, bytes1}
use types.Slots.{Item, number_item, flag_item, text_item, bytes_item, entries_item, Form, number_form, flags_form, short_string_form, long_string_form}
use types.Slots.{table_form, Slot, kept_slot, reserved_slot}
use types.SlotBytes.{form_bytes}
use types.SlotLaws.{are_least, is_least}
use types.SlotSpelling.{SpellsForm, SpellsSlot, SpellsSlots}
use Rattle.amqp_types.proofs.FormLaws.{flags_back, flags_byte_below}
use Rattle.amqp_laws.proofs.SlotForms.{forms_lawful}
use Rattle.amqp_laws.proofs.SlotLaws.{both_true, constant_strict}
use Rattle.amqp_fields.specs.Kinds.{kind_of}
use specs.Made.{made_long, made_text, made_value, misfit, own_index, made_number, made_span, span_in}
use specs.MadeFields.{flags_made, is_field, made_flags, made_form, made_kept, made_plain}
use Rattle.amqp_fields.specs.Meaning.{Field, IsGroup, field, fields_from, kinds_in}
use specs.Meant.{TellsField, TellsItem, kind_limit}
use Rattle.amqp_fields.specs.Counting.{total}
use proofs.Ordered.{lawful_at, from_tidy, Ordered, With}
use Rattle.amqp_fields.proofs.FieldsFound.{spare}
use proofs.MeantValuesMade.{Fits, IsLongAt, IsLongBy, alone_fits, as_fits, behind_long, both_fits, fits_for, fits_into, group_long, long_fits, number_fits}
use proofs.MeantValuesMade.{ok_fits, own_long, span_fits_in, table_fits_at, text_fits, value_fits, Told, table_told, value_told}
use proofs.FieldsMade.{bit_is}
use proofs.MadeOfParts.{after_ok, alone_ok, fails, given_none, given_past, given_split, holds, number_ok, span_ok, text_ok}

-- ---- kinds of numbers

-- the numbers of a width are those of its kind
pub limit_of : (width : NumberWidth) → kind_limit (kind_of (number_form width)) ≡ number_limit width
limit_of bytes1 = refl
limit_of width = refl

-- the kinds of numbers are below that of flags
pub low_kind : (width : NumberWidth) → kind_of (number_form width) < 5
low_kind bytes1 = omega arith
low_kind width = omega arith

-- it is no flags
abbrev pub IsOne : Form → Type 0
IsOne (flags_form count) = ⊥
IsOne form = Unit {0}

-- a field that is meant, by nodes that are in order
abbrev pub Means : Level → List ℕ → Node → List Node → Field → Type 0
Means level pool = With level pool (TellsField pool)

module _ (level : Level) (pool : List ℕ) (fits : IsBytes pool) where
  -- ---- one field

  form_fits : (form : Form) (end : ℕ) (node : Node) (inside : List Node) (item : Item) → IsOne form → node.kind ≡ kind_of form
      → Ordered level pool node inside → TellsItem pool (kind_of form) node inside item
      → Fits (IsLongAt level pool end node inside) (made_form pool form end node inside) (λ bytes. SpellsForm level form bytes (item ∷ []))
  unfolding made_form made_plain
  form_fits (flags_form count) end node inside item one kind order h = absurd one
  form_fits (number_form width) end node inside (number_item n) one kind order h =
      let few : n < number_limit width = rw limit_of at h.0 in
      alone_fits _ h.2 (fits_into (λ bytes spelled. record { thing = n; spelled = spelled; made = refl }) (number_fits width _ h.1 few))
  form_fits (number_form width) end node inside item one kind order h = absurd (omega (arith, low_kind width))
  form_fits short_string_form end node inside (text_item text) one kind order h =
      alone_fits _ h.4 (fits_into (λ bytes spelled. record { thing = text; spelled = spelled; made = refl })
      (span_fits_in (made_text (own_index end inside)) _ h.1 (text_fits _ text h.2 h.3)))
  form_fits long_string_form end node inside (bytes_item content) one kind order h =
      alone_fits _ h.2 (fits_into (λ bytes spelled. record { thing = content; spelled = spelled; made = refl })
      (span_fits_in (made_long (own_index end inside)) _ h.1 (long_fits _ content (own_long level pool end node inside content h.1 h.2))))
  form_fits table_form end node inside (entries_item table) one kind order h =
      fits_into (λ bytes spelled. record { thing = table; spelled = spelled; made = refl })
      (table_fits_at level pool fits inner_depth (made_value pool inner_depth) (value_fits level pool fits inner_depth)
      end node inside table (inl kind, h.1) order)
  form_fits form end node inside item one kind order h = absurd (omega arith)

  -- a field that is meant is made of the first of the nodes
  pub field_fits : (end place : ℕ) (form : Form) (item : Item) (nodes : List Node) (rest : List Node → Type 0) → IsOne form
      → (h : IsGroup (λ node inside. Means level pool node inside (field place (kind_of form) item)) rest nodes)
      → Fits (IsLongBy level pool end nodes) (made_field pool end place form nodes) (λ bytes. SpellsForm level form bytes (item ∷ []))
      × (h.others ≡ drop (group_size nodes) nodes)
  unfolding made_field
  field_fits end place form item nodes rest one h =
      let node = h.node in
      let first : StandsFirst nodes node h.inside h.others = record { nodes_are = h.nodes_are; inside_is = h.inside_is } in
      let behind = h.inside ++ h.others in
      let within : nat_lt (length behind) node.inside ≡ false = grind (numbers, length-append h.inside h.others, h.inside_is) in
      let is : is_field place form node ≡ true = grind numbers in
      let left : drop node.inside behind ≡ h.others = drop_at h.inside h.others node.inside (sym h.inside_is) in
      let front : take node.inside behind ≡ h.inside = take_at h.inside h.others node.inside (sym h.inside_is) in
      let next : group_size (node ∷ behind) ≡ suc node.inside = omega arith in
      let made : made_field pool end place form (node ∷ behind) ≡ made_form pool form (end - length h.others) node h.inside = rw (within, is, left, front) in (
        as_fits (ap (made_field pool end place form) h.nodes_are ∙ made)
            (fits_for (λ bad. group_long first)
            (form_fits form (end - length h.others) node h.inside item one h.means.0.kind_is h.means.1 h.means.0.tells)),
        sym (ap (λ ns. drop (group_size ns) ns) h.nodes_are ∙ ap (λ k. drop k (node ∷ behind)) next ∙ left),
      )

  -- ---- flags

  -- nodes mean items of these kinds, at places from one on
  abbrev Mean : ℕ → List ℕ → List Item → List Node → Type 0
  Mean place kinds items nodes = AreNodes (Means level pool) (fields_from place kinds items) nodes

  record FlagsSplit (place count : ℕ) (kinds : List ℕ) (items : List Item) (nodes : List Node) : Type 0 where
    flags : List Bool
    others : List Item
    items_are : items ≡ map flag_item flags ++ others
    number : length flags ≡ count
    left : length others ≡ length kinds
    is : (end : ℕ) → flags_in end place count nodes ≡ Ok flags
    rest : Mean (place + count) kinds others (drop count nodes)

  bit_back : (b : Bool) (n : ℕ) → n ≡ bit_of b → (n < 2) × ((n == 1) ≡ b)
  bit_back true n is = (omega arith, grind numbers)
  bit_back false n is = (omega arith, grind numbers)

  one_flag : (item : Item) (node : Node) (inside : List Node) → TellsItem pool 5 node inside item
      → (b : Bool) × (item ≡ flag_item b) × (node.number ≡ bit_of b) × (inside ≡ [])
  one_flag (flag_item b) node inside h = (b, refl, h.1, h.2)
  one_flag item node inside h = absurd (omega arith)

  flags_split : (count place : ℕ) (kinds : List ℕ) (items : List Item) (nodes : List Node) → place + count < 256 → length items ≡ count + length kinds
      → Mean place (replicate count 5 ++ kinds) items nodes → FlagsSplit place count kinds items nodes
  unfolding flags_in
  flags_split zero place kinds items nodes room number h =
      let same : place ≡ place + 0 = omega arith in
      record {
        flags = [];
        others = items;
        items_are = refl;
        number = refl;
        left = omega arith;
        is = λ end. refl;
        rest = subst (λ p. Mean p kinds items nodes) same h;
      }
  flags_split (suc count) place kinds [] nodes room number h = absurd (omega arith)
  flags_split (suc count) place kinds (item ∷ items) nodes room number h =
      let one = one_flag item h.node h.inside h.means.0.tells in
      let more = flags_split count (place + 1) kinds items h.others (omega arith) (omega arith) h.rest in
      let parts : nodes ≡ h.node ∷ h.others = h.nodes_are ∙ ap (λ ns. h.node ∷ (ns ++ h.others)) one.3 in
      let none : h.node.inside ≡ 0 = h.inside_is ∙ ap length one.3 in
      let bit = bit_back one.0 h.node.number one.2 in
      let is : is_flag place h.node ≡ true = grind (numbers, bit.0) in
      let next : next_place place 1 ≡ place + 1 = byte_below (place + 1) (omega arith) in
      let there : place + 1 + count ≡ place + suc count = omega arith in
      record {
        flags = one.0 ∷ more.flags;
        others = more.others;
        items_are = ap₂ (λ (x : Item) (xs : List Item). x ∷ xs) one.1 more.items_are;
        number = ap suc more.number;
        left = more.left;
        is = λ end. rw (parts, is, next, more.is end, bit.1);
        rest = rw (parts, ← there) more.rest;
      }

  byte_fits : (flags : List Bool) → length flags ≤ 8 → flags_byte flags < 256
  byte_fits flags few = let most : 2 ^ length flags ≤ 2 ^ 8 = pow_mono few in omega (arith, flags_byte_below flags)

  flags_fit : {Why : Refusal → Type 0} (end place count : ℕ) (nodes : List Node) (flags : List Bool)
      → count ≤ 8 → length flags ≡ count → flags_in end place count nodes ≡ Ok flags
      → Fits Why (made_flags end place count nodes) (λ bytes. SpellsForm level (flags_form count) bytes (map flag_item flags))
  flags_fit end place count nodes flags few number is =
      let less : nat_le count 8 ≡ true = grind numbers in
      rw (less, is)
      (ok_fits (flags_bytes flags) (record {
        thing = flags;
        spelled = record {
          byte = flags_byte flags;
          fits = byte_fits flags (omega arith);
          bytes_are = refl;
          flags_are = sym (ap (λ (n : ℕ). flags_from n 0 (flags_byte flags)) (sym number) ∙ flags_back flags);
          unused = from_tidy level (subst (λ n. flags_byte flags < 2 ^ n) number (flags_byte_below flags));
        };
        made = refl;
      }))

  -- ---- fields one after another

  -- where nothing is left, nothing is made
  pub none_fits : {Why : Refusal → Type 0} (end : ℕ) (nodes : List Node) {P : List ℕ → Type 0} → nodes ≡ [] → P [] → Fits Why (made_none end nodes) P
  none_fits end nodes none p = rw none (ok_fits [] p)

  -- what a field has of the items and of the nodes, and what is made of it
  record SlotSplit (end place : ℕ) (slot : Slot) (slots : List Slot) (items : List Item) (nodes : List Node) : Type 0 where
    one : List Item
    others : List Item
    items_are : items ≡ one ++ others
    left : length others ≡ length (kinds_in slots)
    least : are_least slots ≡ true
    made : Fits (IsLongBy level pool end nodes) (made_slot pool end place slot nodes) (λ bytes. SpellsSlot level slot bytes one)
    rest : Mean (place + kept_count slot) (kinds_in slots) others (drop (node_count slot nodes) nodes)

  slot_split : (end place : ℕ) (slot : Slot) (slots : List Slot) (items : List Item) (nodes : List Node) → place + kept_count slot < 256
      → spare (slot ∷ slots) ≤ 4 → are_least (slot ∷ slots) ≡ true → length items ≡ length (kinds_in (slot ∷ slots))
      → Mean place (kinds_in (slot ∷ slots)) items nodes → SlotSplit end place slot slots items nodes
  unfolding made_kept
  slot_split end place (reserved_slot form constant) slots items nodes room few least number h =
      let sound = both_true (is_least form constant) (are_least slots) least in
      let spelled = lawful_at (forms_lawful form) level (form_bytes form constant) constant (constant_strict form constant sound.0) in
      let there : place ≡ place + 0 = omega arith in
      record {
        one = [];
        others = items;
        items_are = refl;
        left = number;
        least = sound.1;
        made = ok_fits (form_bytes form constant) (record { dropped = constant; spelled = spelled; none = refl; unused = from_tidy level refl });
        rest = subst (λ p. Mean p (kinds_in slots) items nodes) there h;
      }
  slot_split end place (kept_slot (flags_form count)) slots items nodes room few least number h =
      let size : length {A = ℕ} (replicate count 5) ≡ count = length-replicate count 5 in
      let split =
      flags_split count place (kinds_in slots) items nodes (omega arith) (omega (arith, length-append (replicate count 5) (kinds_in slots), size)) h in
      record {
        one = map flag_item split.flags;
        others = split.others;
        items_are = split.items_are;
        left = split.left;
        least = least;
        made = flags_fit end place count nodes split.flags (omega arith) split.number (split.is end);
        rest = split.rest;
      }
  slot_split end place (kept_slot form) slots [] nodes room few least number h = absurd (omega arith)
  slot_split end place (kept_slot form) slots (item ∷ items) nodes room few least number h =
      let Rest : List Node → Type 0 = Mean (place + 1) (kinds_in slots) items in
      let found = field_fits end place form item nodes Rest tt h in
      record { one = item ∷ []; others = items; items_are = refl; left = omega arith; least = least; made = found.0; rest = subst Rest found.1 h.rest }

  -- the fields of a method that are meant are made, with its reserved ones
  pub slots_fit : (end place : ℕ) (slots : List Slot) (items : List Item) (nodes : List Node)
      → place + total slots < 256 → spare slots ≤ 4 → are_least slots ≡ true → length items ≡ length (kinds_in slots)
      → Mean place (kinds_in slots) items nodes
      → Fits (IsLongBy level pool end nodes) (made_slots pool end place slots nodes) (λ bytes. SpellsSlots level slots bytes items)
  unfolding made_slots
  slots_fit end place [] [] nodes room few least number h = none_fits end nodes h (refl, refl)
  slots_fit end place [] (item ∷ items) nodes room few least number h = absurd (omega arith)
  slots_fit end place (slot ∷ slots) items nodes room few least number h =
      let count = node_count slot nodes in
      let s = slot_split end place slot slots items nodes (omega arith) few least number h in
      let next : next_place place (kept_count slot) ≡ place + kept_count slot = byte_below (place + kept_count slot) (omega arith) in
      let more = slots_fit end (place + kept_count slot) slots s.others (drop count nodes) (omega arith) (omega arith) s.least s.left s.rest in
      rw next (both_fits s.one s.others s.items_are s.made
      (fits_for (λ bad. behind_long (take count nodes) (sym (take-append-drop count nodes))) more))

-- ---- what is made was meant

module _ (pool : List ℕ) where
  -- ---- one field

  module _ (end : ℕ) (node : Node) (inside : List Node) (bytes : List ℕ) (within : node.inside ≡ length inside) where
    low : node.kind < 8 → inside ≡ [] → given_length (node ∷ inside) ≤ length bytes
    low kind none = given_none node inside (length bytes) (grind numbers) none

    form_told : (form : Form) → node.kind ≡ kind_of form → made_form pool form end node inside ≡ Ok bytes
        → Told (TellsItem pool (kind_of form) node inside) (node ∷ inside) bytes
    unfolding made_form made_plain
    form_told (number_form width) is h =
        let alone = alone_ok _ (made_number width (own_index end inside) node.number) inside h in
        let few : node.number < kind_limit (kind_of (number_form width)) = rw limit_of (number_ok _ width node.number alone.1) in
        record { thing = number_item node.number; means = (few, refl, alone.0); few = low (omega (arith, low_kind width)) alone.0 }
    form_told (flags_form count) is h = let alone = alone_ok _ (misfit (own_index end inside)) inside h in absurd (let made = alone.1 in cc)
    form_told short_string_form is h =
        let make = made_text (own_index end inside) in
        let alone = alone_ok _ (made_span make (own_index end inside) (span_in pool node.start node.length)) inside h in
        let found = span_ok _ make pool node.start node.length alone.1 in
        let text = text_ok _ found.content found.is in
        record { thing = text_item found.content; means = (refl, found.span, text.0, text.1, alone.0); few = low (omega arith) alone.0 }
    form_told long_string_form is h =
        let make = made_long (own_index end inside) in
        let alone = alone_ok _ (made_span make (own_index end inside) (span_in pool node.start node.length)) inside h in
        let found = span_ok _ make pool node.start node.length alone.1 in
        record { thing = bytes_item found.content; means = (refl, found.span, alone.0); few = low (omega arith) alone.0 }
    form_told table_form is h =
        let told = table_told pool inner_depth (made_value pool inner_depth) (value_told pool inner_depth) end node inside bytes within h in
        record { thing = entries_item told.thing; means = (refl, told.means); few = told.few }

  -- the first node, with those inside it, is a field that gives an item
  pub record FieldTold (place : ℕ) (form : Form) (nodes : List Node) (bytes : List ℕ) : Type 0 where
    pub node : Node
    pub inside : List Node
    pub item : Item
    pub nodes_are : nodes ≡ node ∷ (inside ++ drop (group_size nodes) nodes)
    pub inside_is : node.inside ≡ length inside
    pub tells : TellsField pool node inside (field place (kind_of form) item)
    pub few : given_length nodes ≤ length bytes + given_length (drop (group_size nodes) nodes)

  -- so it stands in front of what the nodes behind it mean
  pub told_group : {place : ℕ} {form : Form} {nodes : List Node} {bytes : List ℕ} {Rest : List Node → Type 0} (f : FieldTold place form nodes bytes)
      → Rest (drop (group_size nodes) nodes)
      → IsGroup (λ node inside. TellsField pool node inside (field place (kind_of form) f.item)) Rest nodes
  told_group {nodes = nodes} f rest = record {
    node = f.node;
    inside = f.inside;
    others = drop (group_size nodes) nodes;
    nodes_are = f.nodes_are;
    inside_is = f.inside_is;
    means = f.tells;
    rest = rest;
  }

  -- of whatever bytes are made, the first of the nodes is a field
  pub field_told : (end place : ℕ) (form : Form) (nodes : List Node) (bytes : List ℕ)
      → made_field pool end place form nodes ≡ Ok bytes → FieldTold place form nodes bytes
  unfolding made_field given_length
  field_told end place form [] bytes h = absurd cc
  field_told end place form (node ∷ others) bytes h =
      let inside = take node.inside others in
      let left = drop node.inside others in
      let made = made_form pool form (end - length left) node inside in
      let within = fails (nat_lt (length others) node.inside) (if is_field place form node then made else misfit (end - length (node ∷ others))) _ _ h in
      let size = length-take-le node.inside others (grind numbers) in
      let is = holds (is_field place form node) made _ _ within.1 in
      let kind : node.kind ≡ kind_of form = grind numbers in
      let told = form_told (end - length left) node inside bytes (sym size) form kind is.1 in
      let next : group_size (node ∷ others) ≡ suc node.inside = omega arith in
      let rest : left ≡ drop (group_size (node ∷ others)) (node ∷ others) = ap (λ k. drop k (node ∷ others)) (sym next) in
      record {
        node = node;
        inside = inside;
        item = told.thing;
        nodes_are = ap (λ (ns : List Node). node ∷ ns) (sym (take-append-drop node.inside others)) ∙ ap (λ ns. node ∷ (inside ++ ns)) rest;
        inside_is = sym size;
        tells = record { place_is = grind numbers; kind_is = kind; tells = told.means };
        few = omega (arith, given_split node.inside others, ap given_length rest);
      }

  -- ---- flags

  -- nodes mean items of these kinds, at places from one on
  abbrev Tell : ℕ → List ℕ → List Item → List Node → Type 0
  Tell place kinds items nodes = AreNodes (TellsField pool) (fields_from place kinds items) nodes

  record FlagsTold (place count : ℕ) (nodes : List Node) (flags : List Bool) : Type 0 where
    number : length flags ≡ count
    means : (kinds : List ℕ) (others : List Item) → Tell (place + count) kinds others (drop count nodes)
        → Tell place (replicate count 5 ++ kinds) (map flag_item flags ++ others) nodes
    none : given_length nodes ≡ given_length (drop count nodes)

  before_ok : (number : ℕ) (more : Result (List Bool) Refusal) (flags : List Bool) → flag_before number more ≡ Ok flags
      → (others : List Bool) × (more ≡ Ok others) × (flags ≡ (number == 1) ∷ others)
  before_ok number (Ok others) flags h = (others, refl, cc)
  before_ok number (Err bad) flags h = absurd cc

  flags_told : (end place count : ℕ) (nodes : List Node) (flags : List Bool) → place + count < 256
      → flags_in end place count nodes ≡ Ok flags → FlagsTold place count nodes flags
  unfolding flags_in
  flags_told end place zero nodes flags room h =
      let none : [] ≡ flags = cc in
      let there : place + 0 ≡ place = omega arith in
      subst (λ fs. FlagsTold place 0 nodes fs) none (record { number = refl; means = λ kinds others h. rw there at h; none = refl })
  flags_told end place (suc count) [] flags room h = absurd cc
  flags_told end place (suc count) (node ∷ nodes) flags room h =
      let is = holds (is_flag place node) (flag_before node.number (flags_in end (next_place place 1) count nodes)) _ _ h in
      let more = before_ok node.number (flags_in end (next_place place 1) count nodes) flags is.1 in
      let next : next_place place 1 ≡ place + 1 = byte_below (place + 1) (omega arith) in
      let told = flags_told end (place + 1) count nodes more.0 (omega arith) (ap (λ p. flags_in end p count nodes) (sym next) ∙ more.1) in
      let there : place + suc count ≡ place + 1 + count = omega arith in
      let few : node.number < 2 = grind numbers in
      subst (λ fs. FlagsTold place (suc count) (node ∷ nodes) fs) (sym more.2) (record {
        number = ap suc told.number;
        means = λ kinds others h. record {
          node = node;
          inside = [];
          others = nodes;
          nodes_are = refl;
          inside_is = grind numbers;
          means =
              record {
                place_is = grind numbers;
                kind_is = grind numbers;
                tells = (refl, sym (bit_is node.number few), refl);
              };
          rest = told.means kinds others (rw there at h);
        };
        none = given_past node nodes (grind numbers) ∙ told.none;
      })

  made_ok : (read : Result (List Bool) Refusal) {bytes : List ℕ} → flags_made read ≡ Ok bytes → (flags : List Bool) × (read ≡ Ok flags)
  made_ok (Ok flags) h = (flags, refl)
  made_ok (Err bad) h = absurd cc

  -- ---- fields one after another

  -- nodes mean items, one of each kind
  abbrev pub TellSlots : ℕ → List Slot → List Node → List Item → Type 0
  TellSlots place slots nodes items = (length items ≡ length (kinds_in slots)) × Tell place (kinds_in slots) items nodes

  -- items that are meant by the first nodes, where the others mean those behind
  record SlotTold (place : ℕ) (slot : Slot) (slots : List Slot) (nodes : List Node) (bytes : List ℕ) : Type 0 where
    items : List Item
    means : (others : List Item) → TellSlots (place + kept_count slot) slots (drop (node_count slot nodes) nodes) others
        → TellSlots place (slot ∷ slots) nodes (items ++ others)
    few : given_length nodes ≤ length bytes + given_length (drop (node_count slot nodes) nodes)

  slot_told : (slot : Slot) (slots : List Slot) (end place : ℕ) (nodes : List Node) (bytes : List ℕ) → place + kept_count slot < 256
      → made_slot pool end place slot nodes ≡ Ok bytes → SlotTold place slot slots nodes bytes
  unfolding made_kept
  slot_told (reserved_slot form constant) slots end place nodes bytes room h =
      let there : place + 0 ≡ place = omega arith in
      record { items = []; means = λ others h. (h.0, rw there at h.1); few = omega arith }
  slot_told (kept_slot (flags_form count)) slots end place nodes bytes room h =
      let made = made_ok (flags_in end place count nodes) (holds (nat_le count 8) (flags_made (flags_in end place count nodes)) _ _ h).1 in
      let told = flags_told end place count nodes made.0 room made.1 in
      let items = map flag_item made.0 in
      let size : length {A = ℕ} (replicate count 5) ≡ count = length-replicate count 5 in
      record {
        items = items;
        means = λ others h. (
          omega (arith, h.0, told.number, length-map made.0 flag_item, length-append items others, length-append (replicate count 5) (kinds_in slots), size),
          told.means (kinds_in slots) others h.1,
        );
        few = omega arith;
      }
  slot_told (kept_slot form) slots end place nodes bytes room h =
      let told = field_told end place form nodes bytes h in
      record {
        items = told.item ∷ [];
        means = λ others h. (ap suc h.0, told_group told h.1);
        few = told.few;
      }

  -- where bytes are made of what is left, nothing is
  pub none_left : (end : ℕ) (nodes : List Node) {bytes : List ℕ} → made_none end nodes ≡ Ok bytes → nodes ≡ []
  none_left end [] h = refl
  none_left end (node ∷ nodes) h = absurd cc

  -- no nodes are given as bytes
  pub none_given : (nodes : List Node) (n : ℕ) → nodes ≡ [] → given_length nodes ≤ n
  unfolding given_length
  none_given nodes n none = omega (arith, ap given_length none)

  -- of whatever bytes are made of fields one after another, their nodes mean items
  pub slots_told : (end place : ℕ) (slots : List Slot) (nodes : List Node) (bytes : List ℕ) → place + total slots < 256
      → made_slots pool end place slots nodes ≡ Ok bytes → Told (TellSlots place slots nodes) nodes bytes
  unfolding made_slots
  slots_told end place [] nodes bytes room h =
      let none = none_left end nodes h in
      record { thing = []; means = (refl, none); few = none_given nodes (length bytes) none }
  slots_told end place (slot ∷ slots) nodes bytes room h =
      let left = drop (node_count slot nodes) nodes in
      let parts = after_ok (made_slot pool end place slot nodes) (made_slots pool end (next_place place (kept_count slot)) slots left) h in
      let first = slot_told slot slots end place nodes parts.front (omega arith) parts.first_is in
      let next : next_place place (kept_count slot) ≡ place + kept_count slot = byte_below (place + kept_count slot) (omega arith) in
      let rest =
      slots_told end (place + kept_count slot) slots left parts.behind (omega arith)
      (ap (λ p. made_slots pool end p slots left) (sym next) ∙ parts.second_is) in
      record { thing = first.items ++ rest.thing; means = first.means rest.thing rest.means; few = omega (arith, first.few, rest.few, parts.size) }
