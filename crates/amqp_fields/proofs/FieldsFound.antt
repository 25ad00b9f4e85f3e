-- The nodes of fields mean the fields.
use Rattle.std.proofs.Common.{replicate, length-append, length-drop, ◌≡◌, ℕ, zero, suc, ◌+◌, ◌-◌, ◌<◌, ◌≤◌, Bool, true, false, List, [], ◌∷◌, ◌++◌, length}
use Rattle.std.proofs.Common.{drop, inl, map, refl, sym, ap, ◌∙◌, append_assoc, append-nil, subst, arith}
use Rattle.amqp_fields.proofs.Names.{length-map, length-replicate, bind_took, value_took, count_took, Judge, Judged, took, ◌>>=◌, judge_both, judge_map}
use Rattle.amqp_fields.proofs.Names.{NumberWidth, bytes1, byte_count, judge_number, judge_short_string, judge_long_string, bit_of, flags_from, judge_flags}
use Rattle.amqp_fields.proofs.Names.{filled, read_map, judge_entry, judge_table, judge_value, judge_field_table, settled, judge_dropped, judge_form, judge_slot}
use Rattle.amqp_fields.proofs.Names.{judge_slots, inner_depth, Node, numbered, spanned, total, kind_of, end_before, field_count, kept_count, listed_bits}
use Rattle.amqp_fields.proofs.Names.{listed_form, listed_slot, listed_slots, listed_span, next_place, placed, AreNodes, Field, IsText, MeansField, MeansItem}
use Rattle.amqp_fields.proofs.Names.{field, fields_from, kinds_in, kinds_of, LieIn, has_span}
use Rattle.amqp_types.specs.Slots.{Item, number_item, flag_item, text_item, bytes_item, entries_item, Form, number_form, flags_form, short_string_form}
use Rattle.amqp_types.specs.Slots.{long_string_form, table_form, Slot, kept_slot, reserved_slot}
use Rattle.amqp_fields.proofs.Agreeing.{Agree, Follows, Takes, agree_back, agree_of, as_took, follows_make}
use Rattle.amqp_fields.proofs.Groups.{Finds, IsAt, IsGroupOf, at_drop, regroup}
use Rattle.amqp_fields.proofs.Lying.{append_lie, none_lie}
use Rattle.amqp_fields.proofs.Spans.{IsPart, byte_below, long_part, number_took, short_part}
use Rattle.amqp_fields.proofs.ValuesFound.{IsBounded, IsLabel, Keeps, all_took, leaf, map_bounded, map_read, map_took, number_bounded, span_group, table_found}
use Rattle.amqp_fields.proofs.ValuesFound.{value_found}

-- ---- lists of nodes

-- nodes of some things and then of others are the nodes of all of them
pub nodes_append : {A : Type 0} (Means : Node → List Node → A → Type 0) (xs ys : List A) (front rest : List Node)
    → AreNodes Means xs front → AreNodes Means ys rest → AreNodes Means (xs ++ ys) (front ++ rest)
nodes_append Means [] ys front rest one two = rw one two
nodes_append Means (x ∷ xs) ys front rest one two = record {
  node = one.node;
  inside = one.inside;
  others = one.others ++ rest;
  nodes_are = ap (λ ns. ns ++ rest) one.nodes_are ∙ ap (λ ns. one.node ∷ ns) (append_assoc one.inside one.others rest);
  inside_is = one.inside_is;
  means = one.means;
  rest = nodes_append Means xs ys one.others rest one.rest two;
}

-- items and then others have their places one after another
pub fields_append : (place : ℕ) (kinds more : List ℕ) (items others : List Item) → length kinds ≡ length items
    → fields_from place (kinds ++ more) (items ++ others) ≡ fields_from place kinds items ++ fields_from (place + length items) more others
fields_append place [] more [] others h = ap (λ k. fields_from k more others) {x = place} {y = place + 0} (omega arith)
fields_append place [] more (item ∷ items) others h = absurd (omega arith)
fields_append place (kind ∷ kinds) more [] others h = absurd (omega arith)
fields_append place (kind ∷ kinds) more (item ∷ items) others h =
    ap (λ fs. field place kind item ∷ fs) (fields_append (place + 1) kinds more items others (omega arith)
    ∙ ap (λ k. fields_from (place + 1) kinds items ++ fields_from k more others) {x = place + 1 + length items} {y = place + suc (length items)} (omega arith))

-- so many flags are read of a byte
pub flags_length : (count k byte : ℕ) → length (flags_from count k byte) ≡ count
flags_length zero k byte = refl
flags_length (suc count) k byte = ap suc (flags_length count (k + 1) byte)

-- ---- what is found

-- Where something is decoded, nodes are listed that stand for it, in as many bytes. All that is listed lies between two places.
pub record Found {A : Type 0} (R : A → List Node → ℕ → Type 0) (from to size : ℕ) (j : Judged A) (k : Judged (List Node)) : Type 0 where
  pub there : Follows R size j k
  pub lies : (nodes : List Node) (n : ℕ) → k ≡ took nodes n → LieIn from to nodes × (n ≤ size)

-- what agrees, and lies there
found_of : {A : Type 0} {R : A → List Node → ℕ → Type 0} {from to size : ℕ} {j : Judged A} {k : Judged (List Node)} → Agree R size j k
    → ((x : A) (nodes : List Node) (n : ℕ) → R x nodes n → LieIn from to nodes) → Found R from to size j k
found_of h lie = record { there = h.there; lies = λ nodes n e. let one = agree_back h nodes n e in (lie one.0 nodes n one.3, one.2) }

-- something is made of what is decoded
pub found_make : {A B : Type 0} {R : A → List Node → ℕ → Type 0} {S : B → List Node → ℕ → Type 0} {from to size : ℕ} (j : Judged A) (k : Judged (List Node))
    (make : A → B) → Found R from to size j k → ((x : A) (nodes : List Node) (n : ℕ) → R x nodes n → S (make x) nodes n)
    → Found S from to size (j >>= λ x. took (make x.0) x.1) k
found_make {S = S} j k make h made = record { there = follows_make S j k make h.there made; lies = h.lies }

-- nothing is read
pub found_none : {A : Type 0} {R : A → List Node → ℕ → Type 0} {from to size : ℕ} (x : A) → R x [] 0 → Found R from to size (took x 0) (took [] 0)
found_none {R = R} {from = from} {to = to} {size = size} x r = record {
  there = λ z n e. as_took (Takes R size (took [] 0)) e ([], refl, omega arith, r);
  lies = λ nodes n e. as_took (λ ns k. LieIn from to ns × (k ≤ size)) e (none_lie, omega arith);
}

-- one thing after another
pub found_both : {A B C : Type 0} {R : A → List Node → ℕ → Type 0} {S : B → List Node → ℕ → Type 0} {T : C → List Node → ℕ → Type 0} {from to : ℕ}
    (bytes : List ℕ) (first : Judge A) (second : Judge B) (join : A → B → C) (one two : Judge (List Node))
    → Found R from to (length bytes) (first bytes) (one bytes)
    → ((n : ℕ) → n ≤ length bytes → Found S from to (length (drop n bytes)) (second (drop n bytes)) (two (drop n bytes)))
    → ((x : A) (nodes : List Node) (n : ℕ) (y : B) (more : List Node) (m : ℕ) → R x nodes n → S y more m → T (join x y) (nodes ++ more) (n + m))
    → Found T from to (length bytes) (judge_both first second join bytes) (judge_both one two (λ a b. a ++ b) bytes)
found_both {T = T} {from = from} {to = to} bytes first second join one two h rest joins = record {
  there = λ z k e.
      let x = bind_took (first bytes) _ _ _ e in
      let a = h.there x.0 x.1 x.2 in
      let y = bind_took (second (drop x.1 bytes)) _ _ _ x.3 in
      let b = (rest x.1 a.2).there y.0 y.1 y.2 in
      as_took (Takes T (length bytes) (judge_both one two (λ ns more. ns ++ more) bytes)) y.3 (
        a.0 ++ b.0,
        ap (λ j. j >>= λ p. two (drop p.1 bytes) >>= λ q. took (p.0 ++ q.0) (p.1 + q.1)) a.1 ∙ ap (λ j. j >>= λ q. took (a.0 ++ q.0) (x.1 + q.1)) b.1,
        omega (arith, length-drop x.1 bytes),
        joins x.0 a.0 x.1 y.0 b.0 y.1 a.3 b.3,
      );
  lies = λ nodes k e.
      let p = bind_took (one bytes) _ _ _ e in
      let a = h.lies p.0 p.1 p.2 in
      let q = bind_took (two (drop p.1 bytes)) _ _ _ p.3 in
      let b = (rest p.1 a.1).lies q.0 q.1 q.2 in
      as_took (λ ns m. LieIn from to ns × (m ≤ length bytes)) q.3 (append_lie _ _ a.0 b.0, omega (arith, length-drop p.1 bytes));
}

-- ---- the nodes of fields

-- the nodes of fields, at most so many
pub record AreFields (deep : Bool) (payload : List ℕ) (fields : List Field) (most : ℕ) (nodes : List Node) : Type 0 where
  pub means : AreNodes (MeansField deep payload) fields nodes
  pub few : length nodes ≤ most

-- fields and then others
pub fields_then : {deep : Bool} {payload : List ℕ} {a b most : ℕ} {xs ys : List Field} {front rest : List Node}
    → AreFields deep payload xs a front → AreFields deep payload ys b rest → a + b ≤ most → AreFields deep payload (xs ++ ys) most (front ++ rest)
fields_then {deep = deep} {payload = payload} {xs = xs} {ys = ys} {front = front} {rest = rest} one two less = record {
  means = nodes_append (MeansField deep payload) xs ys front rest one.means two.means;
  few = omega (arith, length-append front rest);
}

-- items of some kinds from a place on, and their nodes, of which there may be so many more than bytes
pub record AreItems (deep : Bool) (payload : List ℕ) (place count : ℕ) (kinds : List ℕ)
    (spare : ℕ) (items : List Item) (nodes : List Node) (n : ℕ) : Type 0 where
  pub number : length items ≡ count
  pub fields : AreFields deep payload (fields_from place kinds items) (n + spare) nodes

-- how many fields more than bytes
abbrev pub excess : Form → ℕ
excess (flags_form count) = count - 1
excess form = 0

kinds_count : (form : Form) → length (kinds_of form) ≡ field_count form
kinds_count (flags_form count) = length-replicate count 5
kinds_count form = refl

table_bounded : IsBounded judge_field_table
unfolding judge_table
table_bounded bytes es n h =
    let two = bind_took (judge_long_string bytes) _ _ _ h in
    let all = all_took _ _ (read_map settled (filled (judge_entry (judge_value inner_depth)) 0 two.0)) _ two.3 in
    omega (arith, (long_part bytes _ _ two.2).within)

form_bounded : (form : Form) → IsBounded (judge_form form)
unfolding judge_form judge_flags
form_bounded (number_form width) = map_bounded _ (number_bounded width)
form_bounded (flags_form count) = map_bounded _ (map_bounded _ (number_bounded bytes1))
form_bounded short_string_form = map_bounded _ (λ bytes text n h. (short_part bytes _ _ h).within)
form_bounded long_string_form = map_bounded _ (λ bytes text n h. (long_part bytes _ _ h).within)
form_bounded table_form = map_bounded _ table_bounded

label_of : {from to : ℕ} (place : ℕ) (form : Form) → IsLabel from to (placed place form)
label_of place form = record { fresh = search; key = inl (refl, refl) }

-- the node of one field, with those inside it
one_field : {deep : Bool} {payload : List ℕ} {from to : ℕ} (most place : ℕ) (form : Form) (item : Item) {nodes : List Node}
    → IsGroupOf (λ node inside. Keeps (placed place form) node × MeansItem deep payload node inside item) from to most nodes
    → AreFields deep payload (field place (kind_of form) item ∷ []) most nodes
one_field most place form item group = record {
  means = record {
    node = group.node;
    inside = group.inside;
    others = [];
    nodes_are = group.nodes_are ∙ ap (λ ns. group.node ∷ ns) (sym (append-nil group.inside));
    inside_is = group.inside_is;
    means =
        let keeps = group.means.0 in
        record { place_is = keeps.place; kind_is = keeps.kind; no_key = (keeps.key_start, keeps.key_length); means = group.means.1 };
    rest = refl;
  };
  few = group.few;
}

module _ (deep : Bool) (payload : List ℕ) (from to : ℕ) where
  -- a form of one item
  one_found : {A : Type 0} {size : ℕ} (place : ℕ) (form : Form) (j : Judged A) (k : Judged (List Node)) (make : A → Item)
      → Finds (λ node inside x. Keeps (placed place form) node × MeansItem deep payload node inside (make x)) from to size j k
      → Found (AreItems deep payload place 1 (kind_of form ∷ []) 0) from to size (j >>= λ x. took (make x.0 ∷ []) x.1) k
  one_found place form j k make h =
      found_make j k (λ x. make x ∷ []) (found_of h (λ x nodes n group. group.lie)) (λ x nodes n group.
      let one = one_field n place form (make x) group in
      record { number = refl; fields = record { means = one.means; few = omega arith } })

  bits_found : (place : ℕ) (flags : List Bool) → place + length flags < 256
      → AreFields deep payload (fields_from place (replicate (length flags) 5) (map flag_item flags)) (length flags) (listed_bits place flags)
      × LieIn from to (listed_bits place flags)
  bits_found place [] few = (record { means = refl; few = omega arith }, none_lie)
  bits_found place (flag ∷ flags) few =
      let next : next_place place 1 ≡ place + 1 = byte_below (place + 1) (omega (arith, few)) in
      let one = leaf (label_of place (flags_form 1)) refl {digits = 0} {scale = 0} refl (bit_of flag) in
      let others = bits_found (place + 1) flags (omega (arith, few)) in
      rw next (
        fields_then (one_field 1 place (flags_form 1) (flag_item flag) one) others.0 (omega arith),
        append_lie _ _ one.lie others.1,
      )

  flags_found : (place count : ℕ) (bytes : List ℕ) → place + count < 256
      → Found (AreItems deep payload place count (replicate count 5) (count - 1)) from to (length bytes) (judge_map (map flag_item) (judge_flags count) bytes)
      (judge_map (listed_bits place) (judge_flags count) bytes)
  unfolding judge_flags
  flags_found place count bytes room =
      found_make
      {R = λ flags nodes n. AreItems deep payload place count (replicate count 5) (count - 1) (map flag_item flags) nodes n × LieIn from to nodes}
      (judge_flags count bytes) _ (map flag_item)
      (found_of (agree_of (judge_flags count bytes) (λ flags n. listed_bits place flags) (λ flags n e.
      let byte = bind_took (judge_number bytes1 bytes) _ _ _ e in
      let size : length flags ≡ count = ap length (sym (value_took _ _ _ _ byte.3)) ∙ flags_length count 0 byte.0 in
      let took_one = number_took bytes1 bytes _ _ byte.2 in
      let used = count_took _ _ _ _ byte.3 in
      let bits = bits_found place flags (omega arith) in (
        omega arith,
        (
          record {
            number = length-map flags flag_item ∙ size;
            fields = record {
              means = rw size at bits.0.means;
              few = omega arith;
            };
          },
          bits.1,
        ),
      ))) (λ flags nodes n h. h.1))
      (λ flags nodes n h. h.0)

  -- a number
  number_found : (place : ℕ) (width : NumberWidth) (bytes : List ℕ)
      → Found (AreItems deep payload place 1 (kind_of (number_form width) ∷ []) 0) from to (length bytes)
      (judge_map (λ x. number_item x ∷ []) (judge_number width) bytes)
      (judge_map (λ x. numbered (placed place (number_form width)) x ∷ []) (judge_number width) bytes)
  number_found place width bytes =
      one_found place (number_form width) (judge_number width bytes) _ number_item
      (agree_of (judge_number width bytes) (λ x n. numbered (placed place (number_form width)) x ∷ []) (λ x n e.
      let size = number_took width bytes _ _ e in (
        size.1,
        regroup (leaf (label_of place (number_form width)) (no_span width) refl x) (let some = width_some width in omega arith)
            (λ node inside means. means),
      )))
    where
      no_span : (w : NumberWidth) → has_span (kind_of (number_form w)) ≡ false
      no_span bytes1 = refl
      no_span w = refl

      width_some : (w : NumberWidth) → 1 ≤ byte_count w
      width_some bytes1 = omega arith
      width_some w = omega arith

module _ (payload : List ℕ) (from to : ℕ) (bytes : List ℕ) (at : IsAt payload from to bytes) where
  -- a string or a byte array by its span
  span_found : (place : ℕ) (form : Form) (judge : Judge (List ℕ)) (front : ℕ)
      → ((bytes content : List ℕ) (n : ℕ) → judge bytes ≡ took content n → IsPart bytes content front n) → 1 ≤ front
      → Finds (λ node inside content. Keeps (placed place form) node × IsText payload node inside content) from to (length bytes)
      (judge bytes) (listed_span judge to (placed place form) bytes)
  unfolding listed_span
  span_found place form judge front parts some =
      agree_of (judge bytes) (λ content n. spanned (placed place form) (end_before to (drop n bytes)) content ∷ [])
      (λ content n e.
      let part = parts bytes content n e in
      (part.within, span_group at (label_of place form) content front n part (omega (arith, part.used_is))))

  -- a table alone
  alone_found : (place : ℕ) → Found (AreItems false payload place 1 (kind_of table_form ∷ []) 0) from to (length bytes)
      (judge_map (λ es. entries_item es ∷ []) judge_field_table bytes) (listed_span judge_long_string to (placed place table_form) bytes)
  unfolding judge_table
  alone_found place =
      let span = span_found place table_form judge_long_string 4 long_part (omega arith) in
      record {
        there = λ items n e.
            let one = map_took judge_field_table (λ es. entries_item es ∷ []) bytes _ _ e in
            let content = bind_took (judge_long_string bytes) _ _ _ one.1 in
            let all = all_took _ _ (read_map settled (filled (judge_entry (judge_value inner_depth)) 0 content.0)) _ content.3 in
            let entries = map_read settled (filled (judge_entry (judge_value inner_depth)) 0 content.0) _ all.0 in
            let listed = span.there content.0 content.1 content.2 in
            let table =
            one_field content.1 place table_form (entries_item one.0) (regroup listed.3 (omega arith) (λ node inside means. (
              means.0,
              record {
                content = content.0;
                span = means.1.0;
                no_number = means.1.1;
                entries = entries.0;
                fills = entries.1;
                entries_are = means.1.2;
                settles = sym entries.2;
              },
            ))) in (
              listed.0,
              listed.1 ∙ ap (took listed.0) all.1,
              omega arith,
              subst (λ xs. AreItems false payload place 1 (kind_of table_form ∷ []) 0 xs listed.0 n) one.2
                  (record { number = refl; fields = record { means = table.means; few = omega arith } }),
            );
        lies = λ nodes n e. let one = agree_back span nodes n e in (one.3.lie, one.2);
      }

  -- the nodes that are listed of a form are those of the items that are decoded
  pub form_found : (deep : Bool) (place : ℕ) (form : Form) → place + field_count form < 256
      → Found (AreItems deep payload place (field_count form) (kinds_of form) (excess form)) from to (length bytes) (judge_form form bytes)
      (listed_form deep to place form bytes)
  unfolding judge_form listed_form
  form_found deep place (number_form width) room = number_found deep payload from to place width bytes
  form_found deep place (flags_form count) room = flags_found deep payload from to place count bytes room
  form_found deep place short_string_form room =
      one_found _ _ _ _ _ short_string_form _ _ text_item
      (span_found place short_string_form judge_short_string 1 short_part (omega arith))
  form_found deep place long_string_form room =
      one_found _ _ _ _ _ long_string_form _ _ bytes_item
      (span_found place long_string_form judge_long_string 4 long_part (omega arith))
  form_found true place table_form room =
      one_found _ _ _ _ _ table_form _ _ entries_item
      (table_found inner_depth (value_found inner_depth) at (label_of place table_form))
  form_found false place table_form room = alone_found place

-- ---- fields, one after another

-- how many fields that are not reserved are more than bytes
abbrev pub slot_excess : Slot → ℕ
slot_excess (kept_slot form) = excess form
slot_excess (reserved_slot form constant) = 0

-- how many more fields than bytes there are at most
abbrev pub spare : List Slot → ℕ
spare [] = 0
spare (slot ∷ slots) = slot_excess slot + spare slots

-- the kinds of a field that is not reserved
abbrev slot_kinds : Slot → List ℕ
slot_kinds (kept_slot form) = kinds_of form
slot_kinds (reserved_slot form constant) = []

slot_count : (slot : Slot) → length (slot_kinds slot) ≡ kept_count slot
slot_count (kept_slot form) = kinds_count form
slot_count (reserved_slot form constant) = refl

slot_first : (slot : Slot) (slots : List Slot) → slot_kinds slot ++ kinds_in slots ≡ kinds_in (slot ∷ slots)
slot_first (kept_slot form) slots = refl
slot_first (reserved_slot form constant) slots = refl

slot_found : (deep : Bool) (payload : List ℕ) (from to : ℕ) (bytes : List ℕ) (place : ℕ) (slot : Slot)
    → IsAt payload from to bytes → place + kept_count slot < 256
    → Found (AreItems deep payload place (kept_count slot) (slot_kinds slot) (slot_excess slot)) from to (length bytes) (judge_slot slot bytes)
    (listed_slot deep to place slot bytes)
unfolding listed_slot judge_dropped
slot_found deep payload from to bytes place (kept_slot form) at room = form_found payload from to bytes at deep place form room
slot_found deep payload from to bytes place (reserved_slot form constant) at room =
    found_make {R = λ items nodes n. nodes ≡ []} (judge_form form bytes) _ (λ items. [])
    (found_of (agree_of (judge_form form bytes) (λ items n. []) (λ items n e. (form_bounded form bytes items n e, refl)))
    (λ items nodes n none. rw none none_lie))
    (λ items nodes n none. record { number = refl; fields = record { means = none; few = omega (arith, ap length none) } })

-- fields have as many kinds as they are
pub kinds_total : (slots : List Slot) → length (kinds_in slots) ≡ total slots
kinds_total [] = refl
kinds_total (slot ∷ slots) =
    omega (arith, ap length (slot_first slot slots), length-append (slot_kinds slot) (kinds_in slots), slot_count slot, kinds_total slots)

-- as many items as kinds are as many fields
pub from_count : (place : ℕ) (kinds : List ℕ) (items : List Item) → length kinds ≡ length items → length (fields_from place kinds items) ≡ length kinds
from_count place [] items h = refl
from_count place (kind ∷ kinds) [] h = absurd (omega arith)
from_count place (kind ∷ kinds) (item ∷ items) h = omega (arith, from_count (place + 1) kinds items (omega (arith, h)))

-- the nodes that are listed of fields are those of the items that are decoded
pub slots_found : (deep : Bool) (payload : List ℕ) (from to : ℕ) (slots : List Slot) (bytes : List ℕ) (place : ℕ) → place + total slots < 256
    → IsAt payload from to bytes → Found (AreItems deep payload place (total slots) (kinds_in slots) (spare slots)) from to (length bytes)
    (judge_slots slots bytes) (listed_slots deep to place slots bytes)
unfolding judge_slots listed_slots
slots_found deep payload from to [] bytes place room at = found_none [] (record { number = refl; fields = record { means = refl; few = omega arith } })
slots_found deep payload from to (slot ∷ slots) bytes place room at =
    let next : next_place place (kept_count slot) ≡ place + kept_count slot = byte_below (place + kept_count slot) (omega arith) in
    found_both {S = AreItems deep payload (place + kept_count slot) (total slots) (kinds_in slots) (spare slots)} bytes
    (judge_slot slot) (judge_slots slots) (λ xs ys. xs ++ ys) (listed_slot deep to place slot)
    (listed_slots deep to (next_place place (kept_count slot)) slots) (slot_found deep payload from to bytes place slot at (omega arith))
    (λ n few. rw next (slots_found deep payload from to slots (drop n bytes) (place + kept_count slot) (omega arith) (at_drop bytes n at few)))
    (λ items nodes n others more m one two.
    let fields =
    ap (λ ks. fields_from place ks (items ++ others)) (sym (slot_first slot slots))
    ∙ fields_append place (slot_kinds slot) (kinds_in slots) items others (slot_count slot ∙ sym one.number)
    ∙ ap (λ k. fields_from place (slot_kinds slot) items ++ fields_from (place + k) (kinds_in slots) others) one.number in
    record {
      number = omega (arith, length-append items others);
      fields = rw fields
          (fields_then one.fields two.fields (omega arith));
    })
