-- Nodes that reading gives are meant by what is written of them, and those of one frame whose keys ascend say the same.
use Rattle.amqp_fields_laws.specs
use Rattle.amqp_types.specs as types
use Rattle.std.proofs.Common.{length-drop, length-take, ◌≡◌, ℕ, zero, suc, ◌+◌, ◌-◌, ◌<◌, Bool, true, false, List, [], ◌∷◌, ◌++◌, length, get_or, map, take}
use Rattle.std.proofs.Common.{Option, unwrap_or, Ok, refl, sym, ap, subst, ◌∙◌, arith, drop, append-nil, inl, inr}
use Rattle.std.specs.List.{AllByRecursion}
use Rattle.std.specs.Str.{IsUtf8}
use Rattle.amqp_fields.proofs.Names.{IsBytes, IsExact, Judge, inner_depth, filled, judge_entry, judge_value, slots_at, Property, properties, flag_at, Frame}
use Rattle.amqp_fields.proofs.Names.{Proto, Meth, Head, Body, Beat, BadBeat, kind_of, AreInside, AreNodes, Field, IsSpan, IsTable, MeansElement, MeansEntry}
use Rattle.amqp_fields.proofs.Names.{MeansField, MeansItem, MeansValue, Says, SaysAt, TableInside, fields_from, fields_of, kinds_in, kinds_of, set_field}
use Rattle.amqp_fields.proofs.Names.{set_fields, HasNoNumber, IsLeaf, IsScaled, IsText, tag_byte, tag_of}
use Rattle.amqp_fields.specs.declared.node.Node.{Node}
use types.Levels.{plain}
use types.Values.{FieldValue, Entry, boolean_value, signed_value, unsigned_value, decimal_value, bytes_value, array_value, table_value, void_value, items}
use types.Values.{pairs}
use types.ValueSpelling.{SpellsBehind, SpellsEntry, SpellsValue}
use types.Slots.{Item, number_item, flag_item, text_item, bytes_item, entries_item, Form, number_form, flags_form, short_string_form, long_string_form}
use types.Slots.{table_form, Slot, kept_slot, reserved_slot}
use types.SlotSpelling.{SpellsForm, SpellsSlots}
use types.PropertySpelling.{SpellsOptional, SpellsSet}
use types.ContentHeaders.{ContentHeader, SpellsContentHeader, header_of_parts, header_slots}
use Rattle.amqp_laws.proofs.Exactly.{value_exact}
use Rattle.amqp_laws.proofs.Filled.{entry_exact}
use Rattle.amqp_wire.specs.Spelling.{Spells, proto}
use specs.WrittenAgain.{ReadNodesAreMeant}
use Rattle.amqp_fields_write.specs.Meant.{Holds, Tells, TellsAt, TellsEntry, TellsField, TellsItem, TellsValue, kind_limit}
use Rattle.amqp_fields.proofs.Agreeing.{next_took}
use Rattle.amqp_fields.proofs.Lying.{all_append}
use Rattle.amqp_fields.proofs.ValuesFound.{IsArrayOf, IsTableOf}
use Rattle.amqp_fields.proofs.FieldsFound.{fields_append, flags_length}
use Rattle.amqp_fields_write.proofs.MeantFieldsMade.{IsOne, limit_of}
use Rattle.amqp_fields_write.proofs.MeantFramesMade.{AreOne, all_one}
use Rattle.amqp_fields_write.proofs.Ordered.{span_fits, group_part, keys_rise}
use Rattle.amqp_fields_write.proofs.MeantValuesMade.{HoldsEntries, HoldsValues, TellsTable}
use types.declared.tag.FieldTag.TheVariants as tag
use Rattle.amqp_laws.proofs.Strictly.{in_order}
use Rattle.amqp_fields_write.specs.Canonical.{EntriesAscend, IsTableKind, KeysAscend}
use specs.SameNodes.{HasInside, IsSameNode, IsSameSpan, OneByOne, OneFrameHasSameNodes, SameNodes}

-- ---- lists

-- it is encoded by some bytes
pub record Encoded {A : Type 0} (Spells : List ℕ → A → Type 0) (x : A) : Type 0 where
  pub bytes : List ℕ
  pub spelled : Spells bytes x

-- nodes that mean things in one way mean them in another, where that follows of each thing
pub nodes_into : {A : Type 0} (M T : Node → List Node → A → Type 0) (P : A → Type 0)
    → ((node : Node) (inside : List Node) (x : A) → P x → M node inside x → T node inside x)
    → (xs : List A) (nodes : List Node) → AllByRecursion P xs → AreNodes M xs nodes → AreNodes T xs nodes
nodes_into M T P into [] nodes all h = h
nodes_into M T P into (x ∷ xs) nodes all h = record {
  node = h.node;
  inside = h.inside;
  others = h.others;
  nodes_are = h.nodes_are;
  inside_is = h.inside_is;
  means = into h.node h.inside x all.0 h.means;
  rest = nodes_into M T P into xs h.others all.1 h.rest;
}

module _ {A : Type 0} (item : Judge A) (Spells : List ℕ → A → Type 0) (exact : IsExact item Spells) where
  each_read : (k : ℕ) (bytes : List ℕ) (xs : List A) → IsBytes bytes → filled item k bytes ≡ Ok xs → AllByRecursion (Encoded Spells) xs
  unfolding filled
  each_read k [] xs fits h = let e : [] ≡ xs = cc in rw (← e) tt
  each_read (suc k) (b ∷ bytes) xs fits h = each_read k bytes xs (λ i. fits (suc i)) h
  each_read zero (b ∷ bytes) xs fits h =
      let j = next_took (item (b ∷ bytes)) (λ n. filled item (n - 1) bytes) xs h in
      let one = exact.spelled (b ∷ bytes) j.0 j.1 fits j.3 in
      rw (← j.5) (record { bytes = take j.1 (b ∷ bytes); spelled = one.0 }, each_read (j.1 - 1) bytes j.2 (λ i. fits (suc i)) j.4)

-- ---- items and kinds

-- the item is one that a field of the kind gives
abbrev pub ItemOf : ℕ → Item → Type 0
ItemOf kind (number_item n) = n < kind_limit kind
ItemOf kind (flag_item b) = kind ≡ 5
ItemOf kind (text_item text) = (kind ≡ 6) × (length text < 256) × IsUtf8 text
ItemOf kind (bytes_item content) = kind ≡ 7
ItemOf kind (entries_item table) = kind ≡ 8

-- the item of the field is one that its kind gives
abbrev pub Suitable : Field → Type 0
Suitable f = ItemOf f.kind f.item

flags_suit : (place : ℕ) (count : ℕ) (flags : List Bool) → length flags ≡ count
    → AllByRecursion Suitable (fields_from place (kinds_of (flags_form count)) (map flag_item flags))
    × (length (kinds_of (flags_form count)) ≡ length (map flag_item flags))
flags_suit place zero [] is = (tt, refl)
flags_suit place zero (flag ∷ flags) is = absurd (omega arith)
flags_suit place (suc count) [] is = absurd (omega arith)
flags_suit place (suc count) (flag ∷ flags) is = let more = flags_suit (place + 1) count flags (omega arith) in ((refl, more.0), ap suc more.1)

-- the item of a form that is no flags
one_suits : (form : Form) → IsOne form → (bytes : List ℕ) (given : List Item)
    → SpellsForm plain form bytes given → (item : Item) × (given ≡ item ∷ []) × ItemOf (kind_of form) item
one_suits (number_form width) one bytes given h = (number_item h.thing, h.made, rw (limit_of width) h.spelled.fits)
one_suits (flags_form count) one bytes given h = absurd one
one_suits short_string_form one bytes given h = (text_item h.thing, h.made, (refl, h.spelled.fits, h.spelled.utf8))
one_suits long_string_form one bytes given h = (bytes_item h.thing, h.made, refl)
one_suits table_form one bytes given h = (entries_item h.thing, h.made, refl)

-- what a form gives suits its kinds
pub form_suits : (form : Form) (place : ℕ) (bytes : List ℕ) (given : List Item) → SpellsForm plain form bytes given
    → AllByRecursion Suitable (fields_from place (kinds_of form) given) × (length (kinds_of form) ≡ length given)
form_suits (flags_form count) place bytes given h =
    let size : length h.thing ≡ count = ap length h.spelled.flags_are ∙ flags_length count 0 h.spelled.byte in
    rw h.made (flags_suit place count h.thing size)
form_suits form place bytes given h = let one = one_suits form tt bytes given h in rw one.1 ((one.2, tt), refl)

slots_suit : (slots : List Slot) (place : ℕ) (bytes : List ℕ) (given : List Item)
    → SpellsSlots plain slots bytes given → AllByRecursion Suitable (fields_from place (kinds_in slots) given)
slots_suit [] place bytes given h = tt
slots_suit (kept_slot form ∷ slots) place bytes given h =
    let first = form_suits form place h.front h.one h.first_is in
    let rest = slots_suit slots (place + length h.one) h.behind h.two h.second_is in
    rw (h.joined, fields_append place (kinds_of form) (kinds_in slots) h.one h.two first.1) (all_append Suitable _ _ first.0 rest)
slots_suit (reserved_slot form constant ∷ slots) place bytes given h = rw (h.joined, h.first_is.none) (slots_suit slots place h.behind h.two h.second_is)

-- ---- properties and frames

option_suits : (present : Bool) (place : ℕ) (p : Property) (bytes : List ℕ) (option : Option Item) → IsOne p.form
    → SpellsOptional plain present p.form bytes option → AllByRecursion Suitable (set_field place p option)
option_suits true place p bytes option one h =
    let found = one_suits p.form one bytes h.thing h.spelled in
    rw (h.made, found.1) (found.2, tt)
option_suits false place p bytes option one h = rw h.1 tt

set_suits : (mask place : ℕ) (ps : List Property) (bytes : List ℕ) (options : List (Option Item)) → AreOne ps
    → SpellsSet plain mask ps bytes options → AllByRecursion Suitable (set_fields place ps options)
set_suits mask place [] bytes options one h = tt
set_suits mask place (p ∷ ps) bytes options one h =
    rw h.joined (all_append Suitable (set_field place p h.one) _ (option_suits (flag_at mask p.bit) place p h.front h.one one.0 h.first_is)
    (set_suits mask (place + 1) ps h.behind h.two one.1 h.second_is))

front_items : (bytes : List ℕ) (given : List Item) → SpellsSlots plain header_slots bytes given
    → (a : ℕ) × (b : ℕ) × (given ≡ number_item a ∷ number_item b ∷ [])
unfolding header_slots
front_items bytes given h =
    let weight = h.second_is in
    let size = weight.second_is in (
      h.first_is.thing,
      size.first_is.thing,
      simp (h.joined, h.first_is.made, weight.joined, weight.first_is.none, size.joined, size.first_is.made, size.second_is.1),
    )

header_options : (bytes : List ℕ) (header : ContentHeader) → (h : SpellsContentHeader plain bytes header) → h.two ≡ header.options
header_options bytes header h =
    let found = front_items h.front h.one h.first_is in
    sym (ap (λ (x : ContentHeader). x.options) (h.joined ∙ ap (λ xs. header_of_parts xs h.two) found.2))

-- the item of each field of an encoded frame is one that its kind gives
pub frame_suits : (bytes : List ℕ) (frame : Frame) → IsBytes bytes → Spells plain bytes frame → AllByRecursion Suitable (fields_of frame)
unfolding fields_of
frame_suits bytes (Proto major minor revision) fits h =
    let byte : (i : ℕ) → get_or (proto major minor revision) i 0 < 256 = λ i. subst (λ bs. get_or bs i 0 < 256) h (fits i) in
    (byte 5, (byte 6, (byte 7, tt)))
frame_suits bytes (Meth channel m) fits h =
    let payload = h.spelled in
    let kinds : kinds_in payload.slots ≡ kinds_in (unwrap_or (slots_at m.class m.id) []) = ap (λ o. kinds_in (unwrap_or o [])) (sym payload.known) in
    subst (λ ks. AllByRecursion Suitable (fields_from 0 ks m.items)) kinds (slots_suit payload.slots 0 payload.slot_bytes m.items payload.slots_are)
frame_suits bytes (Head channel header) fits h =
    let parts = h.spelled in
    subst (λ os. AllByRecursion Suitable (set_fields 0 properties os)) (header_options h.payload header parts)
    (set_suits parts.second_is.mask 0 properties parts.second_is.behind parts.two all_one parts.second_is.set)
frame_suits bytes (Body channel content) fits h = tt
frame_suits bytes Beat fits h = tt
frame_suits bytes (BadBeat channel) fits h = tt

-- ---- values

module _ (pool : List ℕ) (fits : IsBytes pool) where
  -- what fills a table or an array, where each thing in it is meant
  holds_of : {A : Type 0} (judge : Judge A) (Spells : List ℕ → A → Type 0) → IsExact judge Spells → (M T : Node → List Node → A → Type 0)
      → ((node : Node) (inside : List Node) (x : A) → Encoded Spells x → M node inside x → T node inside x)
      → (node : Node) (inside : List Node) (content : List ℕ) (things : List A) → IsSpan pool node.start node.length content
      → filled judge 0 content ≡ Ok things → AreInside M node inside things → Holds judge (λ xs nodes. AreNodes T xs nodes) pool node inside things
  holds_of judge Spells exact M T into node [] content things span fills h = record { content = content; span = span; fills = fills }
  holds_of judge Spells exact M T into node (first ∷ others) content things span fills h =
      nodes_into M T (Encoded Spells) into things (first ∷ others)
      (each_read judge Spells exact 0 content things (span_fits pool content node.start node.length fits span) fills) h.1

  module _ (depth_left : ℕ) (into : (node : Node) (inside : List Node) (v : FieldValue) → Encoded (SpellsValue plain depth_left) v
      → MeansValue depth_left pool node inside v → TellsValue depth_left pool node inside v) where
    entry_meant : (node : Node) (inside : List Node) (e : Entry) → Encoded (SpellsEntry (SpellsValue plain depth_left)) e
        → MeansEntry (MeansValue depth_left pool) pool node inside e → TellsEntry (TellsValue depth_left pool) pool node inside e
    entry_meant node inside e spelled h =
        let s = spelled.spelled in
        let key : e.0 ≡ s.one = ap (λ (x : Entry). x.0) s.joined in
        let value : s.two ≡ e.1 = sym (ap (λ (x : Entry). x.1) s.joined) in
        record {
          key = h.0;
          short = subst (λ k. length k < 256) (sym key) s.first_is.fits;
          utf8 = subst (λ k. IsUtf8 k) (sym key) s.first_is.utf8;
          value = into node inside e.1 (record { bytes = s.behind; spelled = subst (λ v. SpellsValue plain depth_left s.behind v) value s.second_is }) h.1;
        }

    array_meant : (node : Node) (inside : List Node) (values : List FieldValue) → IsArrayOf depth_left pool node inside values
        → HoldsValues depth_left pool node inside values
    array_meant node inside values h =
        holds_of (judge_value depth_left) (SpellsValue plain depth_left) (value_exact depth_left) (MeansElement (MeansValue depth_left pool))
        (TellsValue depth_left pool) (λ n ns v s m. into n ns v s m.1) node inside h.content values h.span h.fills h.values_are

    table_meant : (node : Node) (inside : List Node) (table : List Entry) → IsTableOf depth_left pool node inside table
        → TellsTable depth_left pool node inside table
    table_meant node inside table h = record {
      entries = h.entries;
      holds =
          holds_of (judge_entry (judge_value depth_left)) (SpellsEntry (SpellsValue plain depth_left))
          (entry_exact (judge_value depth_left) (SpellsValue plain depth_left) (value_exact depth_left)) (MeansEntry (MeansValue depth_left pool) pool)
          (TellsEntry (TellsValue depth_left pool) pool) entry_meant node inside h.content h.entries h.span h.fills h.entries_are;
      settles = h.settles;
    }

  -- by what is an array and what a table
  says_tells : {A B : List FieldValue → Type 0} {T U : List Entry → Type 0} (depth : ℕ)
      (Spells : List ℕ → FieldValue → Type 0) (bytes : List ℕ) (node : Node) (inside : List Node) (v : FieldValue)
      → ((vs : List FieldValue) → A vs → B vs) → ((es : List Entry) → T es → U es)
      → SpellsBehind plain depth Spells bytes v → Says A T pool node inside v → Tells B U pool node inside v
  unfolding Says Tells
  says_tells depth Spells bytes node inside (boolean_value b) arrays tables s h = (h.0, h.3.1)
  says_tells depth Spells bytes node inside (signed_value kind n) arrays tables s h =
      (record { bits = s.bits; fits = s.spelled.fits; means = s.means; number_is = h.0 }, h.3.1)
  says_tells depth Spells bytes node inside (unsigned_value kind n) arrays tables s h = (s.fits, h.0, h.3.1)
  says_tells depth Spells bytes node inside (decimal_value scale n) arrays tables s h =
      let scale_is : scale ≡ s.one = ap (λ (x : ℕ × ℕ). x.0) s.joined in
      let number_is : n ≡ s.two = ap (λ (x : ℕ × ℕ). x.1) s.joined in
      (omega (arith, s.first_is.fits), omega (arith, s.second_is.fits), h.1, h.0, h.3.1)
  says_tells depth Spells bytes node inside (bytes_value kind content) arrays tables s h = (h.0, h.2.1)
  says_tells depth Spells bytes node inside (array_value vs) arrays tables s h = arrays (items vs) h
  says_tells depth Spells bytes node inside (table_value es) arrays tables s h = tables (pairs es) h
  says_tells depth Spells bytes node inside void_value arrays tables s h = h.2.1

  value_meant : (depth_left : ℕ) (node : Node) (inside : List Node) (v : FieldValue) → Encoded (SpellsValue plain depth_left) v
      → MeansValue depth_left pool node inside v → TellsValue depth_left pool node inside v
  unfolding SaysAt TellsAt SpellsValue
  value_meant zero node inside v s h = (h.0, says_tells _ _ _ node inside v (λ vs no. no) (λ es no. no) s.spelled.value_is h.2)
  value_meant (suc depth_left) node inside v s h = (
    h.0,
    says_tells _ _ _ node inside v (array_meant depth_left (value_meant depth_left) node inside)
        (table_meant depth_left (value_meant depth_left) node inside) s.spelled.value_is h.2,
  )

  -- ---- fields

  -- a table that is read alone, or with all that lies inside it
  table_read : (deep : Bool) (node : Node) (inside : List Node) (table : List Entry)
      → IsTable (judge_value inner_depth) (TableInside deep pool node inside) pool node table
      → TellsTable inner_depth pool node inside table
  table_read true node inside table h = table_meant inner_depth (value_meant inner_depth) node inside table h
  table_read false node inside table h = record {
    entries = h.entries;
    holds =
        subst (λ ns. HoldsEntries inner_depth pool node ns h.entries) (sym h.entries_are.1)
        (record { content = h.content; span = h.span; fills = h.fills });
    settles = h.settles;
  }

  item_meant : (deep : Bool) (kind : ℕ) (node : Node) (inside : List Node) (item : Item)
      → ItemOf kind item → MeansItem deep pool node inside item → TellsItem pool kind node inside item
  item_meant deep kind node inside (number_item n) s h = (s, h.0, h.3.1)
  item_meant deep kind node inside (flag_item b) s h = (s, h.0, h.3.1)
  item_meant deep kind node inside (text_item text) s h = (s.0, h.0, s.1, s.2, h.2.1)
  item_meant deep kind node inside (bytes_item content) s h = (s, h.0, h.2.1)
  item_meant deep kind node inside (entries_item table) s h = (s, table_read deep node inside table h)

  fields_meant : (deep : Bool) (fields : List Field) (nodes : List Node) → AllByRecursion Suitable fields
      → AreNodes (MeansField deep pool) fields nodes → AreNodes (TellsField pool) fields nodes
  fields_meant deep fields nodes all h =
      nodes_into (MeansField deep pool) (TellsField pool) Suitable
      (λ node inside f s m. record { place_is = m.place_is; kind_is = m.kind_is; tells = item_meant deep f.kind node inside f.item s m.means })
      fields nodes all h

-- the nodes that reading gives of a frame are meant by what writes it
pub read_meant : ReadNodesAreMeant
read_meant deep pool bytes frame nodes pool_fits fits spelled h =
    fields_meant pool pool_fits deep (fields_of frame) nodes (frame_suits bytes frame fits spelled) h

-- ---- lists

module _ {A : Type 0} (R : A → A → Type 0) where
  -- items that stand in a relation one by one, and then others that do
  pub each_append : (xs ys more rest : List A) → OneByOne R xs ys → OneByOne R more rest → OneByOne R (xs ++ more) (ys ++ rest)
  each_append [] [] more rest one two = two
  each_append [] (y ∷ ys) more rest one two = absurd one
  each_append (x ∷ xs) [] more rest one two = absurd one
  each_append (x ∷ xs) (y ∷ ys) more rest one two = (one.0, each_append xs ys more rest one.1 two)

  -- these are as many
  pub each_length : (xs ys : List A) → OneByOne R xs ys → length xs ≡ length ys
  each_length [] [] h = refl
  each_length [] (y ∷ ys) h = absurd h
  each_length (x ∷ xs) [] h = absurd h
  each_length (x ∷ xs) (y ∷ ys) h = ap suc (each_length xs ys h.1)

module _ (bytes others : List ℕ) where
  -- two nodes with those inside them say the same
  abbrev Same : Node → List Node → Node → List Node → Type 0
  Same a inside b within = SameNodes bytes others (a ∷ inside) (b ∷ within)

  -- what is known of two nodes wherever they stand
  record Beside (a : Node) (inside : List Node) (b : Node) (within : List Node) : Type 0 where
    one : a.inside ≡ length inside
    two : b.inside ≡ length within
    ascend : KeysAscend bytes (a ∷ inside)
    rise : KeysAscend others (b ∷ within)

  -- two nodes have one key
  abbrev HaveKey : Node → Node → Type 0
  HaveKey a b = IsSameSpan bytes a.key_start a.key_length others b.key_start b.key_length

  each_same : {A : Type 0} (M N : Node → List Node → A → Type 0)
      → ((a : Node) (inside : List Node) (b : Node) (within : List Node) (x : A)
      → Beside a inside b within → M a inside x → N b within x → Same a inside b within)
      → (xs : List A) (ns ms : List Node) → AreNodes M xs ns → AreNodes N xs ms → KeysAscend bytes ns → KeysAscend others ms → SameNodes bytes others ns ms
  each_same M N one [] ns ms h g ascend rise = rw (h, g) tt
  each_same M N one (x ∷ xs) ns ms h g ascend rise =
      let beside : Beside h.node h.inside g.node g.inside = record {
        one = h.inside_is;
        two = g.inside_is;
        ascend = group_part (EntriesAscend bytes) ns [] (h.node ∷ h.inside) h.others h.nodes_are ascend;
        rise = group_part (EntriesAscend others) ms [] (g.node ∷ g.inside) g.others g.nodes_are rise;
      } in
      rw (h.nodes_are, g.nodes_are)
      (each_append (IsSameNode bytes others) (h.node ∷ h.inside) (g.node ∷ g.inside) h.others g.others
      (one h.node h.inside g.node g.inside x beside h.means g.means)
      (each_same M N one xs h.others g.others h.rest g.rest (left bytes ns h.node h.inside h.others h.nodes_are ascend)
      (left others ms g.node g.inside g.others g.nodes_are rise)))
    where
      left : (pool : List ℕ) (nodes : List Node) (node : Node) (inside behind : List Node) → nodes ≡ node ∷ (inside ++ behind)
          → KeysAscend pool nodes → KeysAscend pool behind
      left pool nodes node inside behind is =
          group_part (EntriesAscend pool) nodes (node ∷ inside) behind [] (is ∙ ap (λ ks. node ∷ (inside ++ ks)) (sym (append-nil behind)))

  -- ---- one node

  no_bytes : (start begin : ℕ) {count number : ℕ} → count ≡ 0 → number ≡ 0 → IsSameSpan bytes start count others begin number
  no_bytes start begin h g = rw (h, g) (refl, refl)

  one_text : {content : List ℕ} {start count begin number : ℕ} → IsSpan bytes start count content
      → IsSpan others begin number content → IsSameSpan bytes start count others begin number
  one_text {start = start} {count = count} {begin = begin} {number = number} h g =
      let one = ap length h.bytes_are in
      let two = ap length g.bytes_are in (
        omega (arith, length-take count (drop start bytes), length-take number (drop begin others), length-drop start bytes, length-drop begin others),
        h.bytes_are ∙ sym g.bytes_are,
      )

  module _ {a : Node} {inside : List Node} {b : Node} {within : List Node} (beside : Beside a inside b within) (kind : a.kind ≡ b.kind)
      (place : a.place ≡ b.place) (key : HaveKey a b) where
    node_same : a.number ≡ b.number → a.scale ≡ b.scale → a.items ≡ b.items
        → ((HasInside a.kind → ⊥) → IsSameSpan bytes a.start a.length others b.start b.length) → SameNodes bytes others inside within → Same a inside b within
    node_same number scale items span same = (
      record {
        kind_is = kind;
        place_is = place;
        number_is = number;
        scale_is = scale;
        inside_is = beside.one ∙ each_length (IsSameNode bytes others) inside within same ∙ sym beside.two;
        items_are = items;
        key_is = key;
        span_is = span;
      },
      same,
    )

    leaf_same : a.number ≡ b.number → a.scale ≡ b.scale → IsSameSpan bytes a.start a.length others b.start b.length
        → IsLeaf a inside → IsLeaf b within → Same a inside b within
    leaf_same number scale span h g = node_same number scale (h.0 ∙ sym g.0) (λ leaf. span) (rw (h.1, g.1) tt)

    scaled_same : (scale n : ℕ) → IsScaled a inside scale n → IsScaled b within scale n → Same a inside b within
    scaled_same scale n h g = leaf_same (h.0 ∙ sym g.0) (h.1 ∙ sym g.1) (no_bytes _ _ h.2.1 g.2.1) h.3 g.3

    text_same : (content : List ℕ) → IsText bytes a inside content → IsText others b within content → Same a inside b within
    text_same content h g = leaf_same (h.1.0 ∙ sym g.1.0) (h.1.1 ∙ sym g.1.1) (one_text h.0 g.0) h.2 g.2

    nest_same : {A : Type 0} (M N : Node → List Node → A → Type 0) → ((c : Node) (i : List Node) (d : Node) (j : List Node) (x : A)
        → Beside c i d j → M c i x → N d j x → Same c i d j) → (xs : List A) → HasInside a.kind → HasNoNumber a → HasNoNumber b
        → AreInside M a inside xs → AreInside N b within xs → Same a inside b within
    nest_same M N one xs nest h g held kept =
        node_same (h.0 ∙ sym g.0) (h.1 ∙ sym g.1) (held.0 ∙ sym kept.0) (λ leaf. absurd (leaf nest))
        (each_same M N one xs inside within held.1 kept.1 (deeper bytes a inside beside.ascend) (deeper others b within beside.rise))
      where
        deeper : (pool : List ℕ) (node : Node) (nodes : List Node) → KeysAscend pool (node ∷ nodes) → KeysAscend pool nodes
        deeper pool node nodes = group_part (EntriesAscend pool) (node ∷ nodes) (node ∷ []) nodes [] (ap (λ ns. node ∷ ns) (sym (append-nil nodes)))

    says_same : {A B : List FieldValue → Type 0} {T U : List Entry → Type 0}
        → ((vs : List FieldValue) → a.kind ≡ tag_byte tag.FieldArray → A vs → B vs → Same a inside b within)
        → ((es : List Entry) → IsTableKind a.kind → T es → U es → Same a inside b within)
        → (v : FieldValue) → a.kind ≡ tag_byte (tag_of v) → Says A T bytes a inside v → Says B U others b within v → Same a inside b within
    unfolding Says
    says_same arrays tables (boolean_value truth) is h g = scaled_same 0 _ h g
    says_same arrays tables (signed_value width n) is h g = scaled_same 0 _ h g
    says_same arrays tables (unsigned_value width n) is h g = scaled_same 0 _ h g
    says_same arrays tables (decimal_value scale n) is h g = scaled_same scale n h g
    says_same arrays tables (bytes_value width content) is h g = text_same content h g
    says_same arrays tables (array_value vs) is h g = arrays (items vs) is h g
    says_same arrays tables (table_value es) is h g = tables (pairs es) (inr is) h g
    says_same arrays tables void_value is h g = leaf_same (h.0.0 ∙ sym g.0.0) (h.0.1 ∙ sym g.0.1) (no_bytes _ _ h.1.1 g.1.1) h.2 g.2

  -- ---- values

  -- two nodes of one value so deep say the same
  abbrev ValuesAreSame : ℕ → Type 0
  ValuesAreSame depth_left =
      (a : Node) (inside : List Node) (b : Node) (within : List Node) (v : FieldValue) → Beside a inside b within → HaveKey a b
      → MeansValue depth_left bytes a inside v → MeansValue depth_left others b within v → Same a inside b within

  module _ (depth_left : ℕ) (value : ValuesAreSame depth_left) {a : Node} {inside : List Node} {b : Node} {within : List Node}
      (beside : Beside a inside b within) (kind : a.kind ≡ b.kind)
      (place : a.place ≡ b.place) (key : HaveKey a b) where
    array_same : (vs : List FieldValue) → a.kind ≡ tag_byte tag.FieldArray → IsArrayOf depth_left bytes a inside vs
        → IsArrayOf depth_left others b within vs → Same a inside b within
    array_same vs is h g =
        nest_same beside kind place key (MeansElement (MeansValue depth_left bytes)) (MeansElement (MeansValue depth_left others))
        (λ c i d j v two p q. value c i d j v two (no_bytes _ _ p.0.1 q.0.1) p.1 q.1) vs (inr is) h.no_number g.no_number h.values_are g.values_are

    table_same : (table : List Entry) → IsTableKind a.kind → IsTableOf depth_left bytes a inside table
        → IsTableOf depth_left others b within table → Same a inside b within
    table_same table is h g =
        let M = MeansEntry (MeansValue depth_left bytes) bytes in
        let N = MeansEntry (MeansValue depth_left others) others in
        let one = keys_rise bytes M (λ node i e p. p.0) a inside h.entries beside.one beside.ascend is h.entries_are.1 in
        let two = keys_rise others N (λ node i e p. p.0) b within g.entries beside.two beside.rise (rw kind at is) g.entries_are.1 in
        let same : g.entries ≡ h.entries = sym (in_order [] g.entries two) ∙ sym g.settles ∙ h.settles ∙ in_order [] h.entries one in
        nest_same beside kind place key M N (λ c i d j e two p q. value c i d j e.1 two (one_text p.0 q.0) p.1 q.1)
        h.entries (inl is) h.no_number g.no_number h.entries_are (rw same at g.entries_are)

  value_same : (depth_left : ℕ) → ValuesAreSame depth_left
  unfolding SaysAt
  value_same zero a inside b within v beside key h g =
      says_same beside (h.0 ∙ sym g.0) (h.1 ∙ sym g.1) key (λ vs is no more. absurd no) (λ es is no more. absurd no) v h.0 h.2 g.2
  value_same (suc depth_left) a inside b within v beside key h g =
      let kind = h.0 ∙ sym g.0 in
      let place = h.1 ∙ sym g.1 in
      says_same beside kind place key (array_same depth_left (value_same depth_left) beside kind place key)
      (table_same depth_left (value_same depth_left) beside kind place key) v h.0 h.2 g.2

  -- ---- fields

  item_same : {a : Node} {inside : List Node} {b : Node} {within : List Node} → Beside a inside b within → a.kind ≡ b.kind
      → a.place ≡ b.place → HaveKey a b → (item : Item)
      → ItemOf a.kind item → MeansItem true bytes a inside item → MeansItem true others b within item → Same a inside b within
  item_same beside kind place key (number_item n) suits h g = scaled_same beside kind place key 0 n h g
  item_same beside kind place key (flag_item truth) suits h g = scaled_same beside kind place key 0 _ h g
  item_same beside kind place key (text_item text) suits h g = text_same beside kind place key text h g
  item_same beside kind place key (bytes_item content) suits h g = text_same beside kind place key content h g
  item_same beside kind place key (entries_item table) suits h g =
      table_same inner_depth (value_same inner_depth) beside kind place key table (inl suits) h g

  fields_same : (fields : List Field) (nodes more : List Node) → AllByRecursion Suitable fields → AreNodes (MeansField true bytes) fields nodes
      → AreNodes (MeansField true others) fields more → KeysAscend bytes nodes → KeysAscend others more → SameNodes bytes others nodes more
  fields_same fields nodes more all h =
      let Both : Node → List Node → Field → Type 0 = λ node inside f. MeansField true bytes node inside f × Suitable f in
      each_same Both (MeansField true others)
      (λ a inside b within f beside p q.
      item_same beside (p.0.kind_is ∙ sym q.kind_is) (p.0.place_is ∙ sym q.place_is)
      (no_bytes _ _ p.0.no_key.1 q.no_key.1) f.item (rw (p.0.kind_is) p.1) p.0.means q.means)
      fields nodes more (nodes_into (MeansField true bytes) Both Suitable (λ node inside f s m. (m, s)) fields nodes all h)

-- nodes that were read of one frame say the same, where the keys of each table ascend
pub same_nodes : OneFrameHasSameNodes
same_nodes bytes others encoded frame nodes more fits spelled h g ascend rise =
    fields_same bytes others (fields_of frame) nodes more (frame_suits encoded frame fits spelled) h g ascend rise
