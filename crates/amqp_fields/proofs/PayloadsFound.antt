-- The nodes of a whole payload mean the fields of its frame.
use Rattle.std.proofs.Common.{option_and_then, unwrap_or, length-append, length-drop, ◌≡◌, ℕ, ◌+◌, ◌<◌, ◌≤◌, ◌==◌, ◌&&◌, nat_le, Bool, true, false, List, []}
use Rattle.std.proofs.Common.{◌∷◌, ◌++◌, length, drop, Option, Some, None, refl, sym, ap, ap₂, subst, ◌∙◌, arith}
use Rattle.std.specs.Map.{lookup}
use Rattle.std.specs.List.{list_all}
use Rattle.amqp_fields.proofs.Names.{nat_tests, bind_took, value_took, count_took, Fault, Judged, took, unknown_class, unknown_method, ◌>>=◌, NumberWidth}
use Rattle.amqp_fields.proofs.Names.{bytes2, bytes8, byte_count, judge_number, bit_of, flag_at, judge_dropped, judge_form, judge_slots, Property}
use Rattle.amqp_fields.proofs.Names.{later_properties, properties, Row, classes, rows_of, slots_at, Node, method_count, set_at, set_count, total, kind_of}
use Rattle.amqp_fields.proofs.Names.{field_count, listed_header, listed_known, listed_method, listed_option, listed_properties, listed_set, next_place, Field}
use Rattle.amqp_fields.proofs.Names.{fields_from, kinds_in, kinds_of, set_field, set_fields, LieIn}
use Rattle.amqp_types.specs.Slots.{Item, number_item, Form, number_form, flags_form, Slot, kept_slot, reserved_slot}
use Rattle.amqp_types.specs.PropertyJudging.{first_item, judge_optional, judge_properties, judge_set}
use Rattle.amqp_types.specs.PropertyLaws.{give_one, gives_one}
use Rattle.std.proofs.lemmas.List.Sums.{AllPass-from_list_all}
use Rattle.std.proofs.lemmas.Map.Entries.{All-lookup}
use Rattle.amqp_types.specs.Methods.{Method, method, known, judge_in_class, judge_method, judge_payload}
use Rattle.amqp_types.specs.ContentHeaders.{ContentHeader, header_of_parts, header_slots, judge_content_header}
use Rattle.amqp_laws.proofs.SlotLaws.{both_true}
use Rattle.amqp_fields.proofs.Spans.{byte_below, number_took}
use Rattle.amqp_fields.proofs.Groups.{IsAt, at_drop}
use Rattle.amqp_fields.proofs.FieldsFound.{AreFields, Found, excess, fields_then, form_found, found_both, found_make, found_none, from_count, kinds_total}
use Rattle.amqp_fields.proofs.FieldsFound.{slots_found, spare}
use Rattle.amqp_fields.proofs.ValuesFound.{both_took, map_took}

-- ---- properties

pub record IsSingle (form : Form) : Type 0 where
  pub count : field_count form ≡ 1
  pub kinds : kinds_of form ≡ kind_of form ∷ []
  pub no_excess : excess form ≡ 0

-- what is no flags gives one item of its kind
pub single_form : (form : Form) → gives_one form ≡ true → IsSingle form
single_form (flags_form count) h = absurd cc
single_form form h = record { count = refl; kinds = refl; no_excess = refl }

-- properties that are set, by a mask, and their nodes
pub record AreSet (deep : Bool) (payload : List ℕ) (fields : List Field) (count : ℕ) (nodes : List Node) (n : ℕ) : Type 0 where
  pub number : length fields ≡ count
  pub nodes_are : AreFields deep payload fields n nodes

-- what is listed of a whole payload are the nodes of so many fields
abbrev pub IsListed : Bool → List ℕ → List ℕ → Judged (List Node) → List Field → ℕ → Type 0
IsListed deep bytes payload judged fields count =
    (nodes : List Node) × (used : ℕ) × (judged ≡ took nodes used) × AreSet deep bytes fields count nodes (length payload)

-- a list of length 1 is one item
pub one_item : (items : List Item) → length items ≡ 1 → (item : Item) × (items ≡ item ∷ [])
one_item [] h = absurd (omega arith)
one_item (item ∷ []) h = (item, refl)
one_item (item ∷ other ∷ items) h = absurd (omega arith)

module _ (deep : Bool) (payload : List ℕ) (from to : ℕ) where
  option_found : (set : Bool) (bytes : List ℕ) (place : ℕ) (p : Property) → place < 255 → gives_one p.form ≡ true → IsAt payload from to bytes
      → Found (λ option. AreSet deep payload (set_field place p option) (bit_of set)) from to (length bytes) (judge_optional set p.form bytes)
      (listed_option set deep to place p.form bytes)
  unfolding judge_optional listed_option
  option_found false bytes place p room single at = found_none None (record { number = refl; nodes_are = record { means = refl; few = omega arith } })
  option_found true bytes place p room single at =
      let one = single_form p.form single in
      found_make (judge_form p.form bytes) _ first_item (form_found payload from to bytes at deep place p.form (omega arith))
      (λ items nodes n are.
      let item = one_item items (are.number ∙ one.count) in
      let same : fields_from place (kinds_of p.form) items ≡ set_field place p (first_item items) =
      ap (λ ks. fields_from place ks items) one.kinds ∙ ap (fields_from place (kind_of p.form ∷ [])) item.1
      ∙ ap (λ xs. set_field place p (first_item xs)) (sym item.1) in
      record {
        number = ap (λ xs. length (set_field place p (first_item xs))) item.1;
        nodes_are =
            record { means = rw same at are.fields.means; few = omega arith };
      })

  set_found : (mask : ℕ) (ps : List Property) (bytes : List ℕ) (place : ℕ) → place + length ps < 256 → give_one ps ≡ true
      → IsAt payload from to bytes → Found (λ options. AreSet deep payload (set_fields place ps options) (set_count mask ps)) from to (length bytes)
      (judge_set mask ps bytes) (listed_set mask deep to place ps bytes)
  unfolding judge_set listed_set
  set_found mask [] bytes place room single at = found_none [] (record { number = refl; nodes_are = record { means = refl; few = omega arith } })
  set_found mask (p ∷ ps) bytes place room single at =
      let all = both_true (gives_one p.form) (give_one ps) single in
      let next : next_place place 1 ≡ place + 1 = byte_below (place + 1) (omega arith) in
      let set = flag_at mask p.bit in
      found_both {S = λ options. AreSet deep payload (set_fields (place + 1) ps options) (set_count mask ps)} bytes
      (judge_optional set p.form) (judge_set mask ps) (λ option options. option ∷ options) (listed_option set deep to place p.form)
      (listed_set mask deep to (next_place place 1) ps) (option_found set bytes place p (omega arith) all.0 at)
      (λ n few. rw next (set_found mask ps (drop n bytes) (place + 1) (omega arith) all.1 (at_drop bytes n at few)))
      (λ option nodes n options more m one two. record {
        number = omega (arith, length-append (set_field place p option) (set_fields (place + 1) ps options));
        nodes_are = fields_then one.nodes_are two.nodes_are (omega arith);
      })

-- no property is flags
pub all_single : give_one properties ≡ true
unfolding properties later_properties
all_single = refl

-- there are 14 properties
pub fourteen : length properties ≡ 14
unfolding properties later_properties
fourteen = refl

-- the nodes that are listed of a mask and what stands behind it are those of the properties that are set
pub properties_found : (deep : Bool) (payload : List ℕ) (from to : ℕ) (bytes : List ℕ) → IsAt payload from to bytes
    → Found (λ options. AreSet deep payload (set_fields 0 properties options) (set_at (judge_number bytes2 bytes))) from to (length bytes)
    (judge_properties bytes) (listed_properties deep to bytes)
unfolding judge_properties listed_properties
properties_found deep payload from to bytes at = record {
  there = λ options n e.
      let mask = bind_took (judge_number bytes2 bytes) _ _ _ e in
      let set = bind_took (judge_set mask.0 properties (drop mask.1 bytes)) _ _ _ mask.3 in
      let used = count_took _ _ _ _ set.3 in
      let one = (behind mask.0 mask.1 mask.2).there set.0 set.1 set.2 in (
        one.0,
        ap (λ j. j >>= λ m. listed_set m.0 deep to 0 properties (drop m.1 bytes) >>= λ s. took s.0 (m.1 + s.1)) mask.2
            ∙ ap (λ j. j >>= λ s. took s.0 (mask.1 + s.1)) one.1 ∙ ap (took one.0) used,
        omega (arith, (front mask.0 mask.1 mask.2).1, length-drop mask.1 bytes),
        subst (λ os. AreSet deep payload (set_fields 0 properties os) (set_at (judge_number bytes2 bytes)) one.0 n)
            (value_took _ _ _ _ set.3)
            (record {
              number = one.3.number ∙ sym (ap set_at mask.2);
              nodes_are = record { means = one.3.nodes_are.means; few = omega arith };
            }),
      );
  lies = λ nodes n e.
      let mask = bind_took (judge_number bytes2 bytes) _ _ _ e in
      let set = bind_took (listed_set mask.0 deep to 0 properties (drop mask.1 bytes)) _ _ _ mask.3 in
      let used = count_took _ _ _ _ set.3 in
      let one = (behind mask.0 mask.1 mask.2).lies set.0 set.1 set.2 in
      (subst (LieIn from to) (value_took _ _ _ _ set.3) one.0, omega (arith, (front mask.0 mask.1 mask.2).1, length-drop mask.1 bytes));
}
  where
    front : (mask n : ℕ) → judge_number bytes2 bytes ≡ took mask n → (n ≡ 2) × (n ≤ length bytes)
    front mask n e = number_took bytes2 bytes _ _ e

    behind : (mask n : ℕ) → judge_number bytes2 bytes ≡ took mask n
        → Found (λ options. AreSet deep payload (set_fields 0 properties options) (set_count mask properties)) from to (length (drop n bytes))
        (judge_set mask properties (drop n bytes)) (listed_set mask deep to 0 properties (drop n bytes))
    behind mask n e =
        set_found deep payload from to mask properties (drop n bytes) 0 (omega (arith, fourteen)) all_single (at_drop bytes n at (front mask n e).1)

-- ---- content headers

-- a number gives one item
number_form_took : (width : NumberWidth) (bytes : List ℕ) (items : List Item) (n : ℕ) → judge_form (number_form width) bytes ≡ took items n
    → (x : ℕ) × (items ≡ number_item x ∷ []) × (n ≡ byte_count width) × (n ≤ length bytes)
unfolding judge_form
number_form_took width bytes items n h =
    let one = map_took (judge_number width) (λ x. number_item x ∷ []) bytes _ _ h in
    let size = number_took width bytes _ _ one.1 in
    (one.0, sym one.2, size.0, size.1)

two_items : (a c : ℕ) {x y none z last empty items : List Item} → x ++ y ≡ items → x ≡ number_item a ∷ [] → none ++ z ≡ y → [] ≡ none
    → last ++ empty ≡ z → last ≡ number_item c ∷ [] → [] ≡ empty → (set : List (Option Item)) → (header_of_parts items set).options ≡ set
two_items a c all first behind dropped left second nothing set = rw (← all, first, ← behind, ← dropped, ← left, second, ← nothing)

-- what stands in front of the properties of a content header has 12 bytes
pub front_used : (bytes : List ℕ) (items : List Item) (n : ℕ) → judge_slots header_slots bytes ≡ took items n
    → (n ≡ 12) × (n ≤ length bytes) × ((set : List (Option Item)) → (header_of_parts items set).options ≡ set)
unfolding header_slots judge_slots judge_dropped
front_used bytes items n h =
    let join : List Item → List Item → List Item = λ xs ys. xs ++ ys in
    let size : List Slot = kept_slot (number_form bytes8) ∷ [] in
    let weight : List Slot = reserved_slot (number_form bytes2) (number_item 0 ∷ []) ∷ size in
    let one = both_took (judge_form (number_form bytes2)) (judge_slots weight) join bytes _ _ h in
    let a = number_form_took bytes2 bytes one.0 one.1 one.4 in
    let behind = drop one.1 bytes in
    let two = both_took (judge_dropped (number_form bytes2)) (judge_slots size) join behind _ _ one.5 in
    let dropped = map_took (judge_form (number_form bytes2)) (λ xs. []) behind _ _ two.4 in
    let b = number_form_took bytes2 behind dropped.0 two.1 dropped.1 in
    let last = drop two.1 behind in
    let three = both_took (judge_form (number_form bytes8)) (judge_slots []) join last _ _ two.5 in
    let c = number_form_took bytes8 last three.0 three.1 three.4 in
    let zero : 0 ≡ three.3 = count_took _ _ _ _ three.5 in
    let front = length-drop one.1 bytes in
    let left = length-drop two.1 behind in (
      omega (arith, one.7, two.7, three.7, a.2, b.2, c.2),
      omega (arith, one.7, two.7, three.7, a.2, b.2, c.2, a.3, b.3, c.3),
      two_items a.0 c.0 one.6 a.1 two.6 dropped.2 three.6 c.1 (value_took _ _ _ _ three.5),
    )

-- the nodes that are listed of a content header are those of its properties that are set
pub header_found : (deep : Bool) (bytes : List ℕ) (from to : ℕ) (payload : List ℕ) (n : ℕ) (header : ContentHeader)
    → IsAt bytes from to payload → judge_content_header payload ≡ took header n
    → IsListed deep bytes payload (listed_header deep to payload)
    (set_fields 0 properties header.options) (set_at (judge_number bytes2 (drop 12 payload)))
unfolding judge_content_header listed_header
header_found deep bytes from to payload n header at h =
    let front = bind_took (judge_slots header_slots payload) _ _ _ h in
    let parts = front_used payload front.0 front.1 front.2 in
    let set = bind_took (judge_properties (drop front.1 payload)) _ _ _ front.3 in
    let is : header_of_parts front.0 set.0 ≡ header = value_took _ _ _ _ set.3 in
    let found = (properties_found deep bytes from to (drop front.1 payload) (at_drop payload front.1 at parts.1)).there set.0 set.1 set.2 in
    let options : header.options ≡ set.0 = ap (λ (x : ContentHeader). x.options) (sym is) ∙ parts.2 set.0 in
    let P : List (Option Item) → Type 0 =
    λ os. AreSet deep bytes (set_fields 0 properties os) (set_at (judge_number bytes2 (drop 12 payload))) found.0 (length payload) in (
      found.0,
      set.1,
      ap (λ k. listed_properties deep to (drop k payload)) (sym parts.0) ∙ found.1,
      subst P (sym options) (record {
        number = found.3.number ∙ ap (λ k. set_at (judge_number bytes2 (drop k payload))) parts.0;
        nodes_are = record { means = found.3.nodes_are.means; few = omega (arith, length-drop front.1 payload) };
      }),
    )

-- ---- methods

-- no method has many fields, and its ids are at least as many bytes as it has more fields than bytes
abbrev is_small : List Slot → Bool
is_small slots = nat_le (total slots) 255 && nat_le (spare slots) 4

abbrev are_small : List Row → Bool
are_small rows = list_all (λ row. is_small row.1) rows

table_small : list_all (λ class. are_small class.1) classes ≡ true
table_small = refl

-- what holds of each thing in a table holds of what is looked up
looked_up : {X : Type 0} (test : X → Bool) (id : ℕ) (table : List (ℕ × X)) (found : X)
    → list_all (λ row. test row.1) table ≡ true → lookup (λ key. id == key) table ≡ Some found → test found ≡ true
looked_up test id table found all h =
    rw h at (All-lookup (λ x. test x ≡ true) (λ key. id == key) table (AllPass-from_list_all (λ row. test row.1) table all))

small_method : (rows : Option (List Row)) (id : ℕ) (slots : List Slot) → ((some : List Row) → rows ≡ Some some → are_small some ≡ true)
    → option_and_then (λ rs. lookup (λ k. id == k) rs) rows ≡ Some slots → is_small slots ≡ true
small_method None id slots all h = absurd cc
small_method (Some rows) id slots all h = looked_up is_small id rows slots (all rows refl) h

-- no method of the table has many fields
pub slots_small : (class id : ℕ) (slots : List Slot) → slots_at class id ≡ Some slots → is_small slots ≡ true
unfolding slots_at rows_of
slots_small class id slots h = small_method (lookup (λ k. class == k) classes) id slots (λ rows is. looked_up are_small class classes rows table_small is) h

-- what is known in a table was looked up there
pub known_took : {A : Type 0} (unknown : Fault) (o : Option A) (x : A) (n : ℕ) → known unknown o ≡ took x n → (o ≡ Some x) × (n ≡ 0)
known_took unknown None x n h = absurd cc
known_took unknown (Some y) x n h = (ap Some (value_took _ _ _ _ h), sym (count_took _ _ _ _ h))

-- a test says that fields are few
pub small_is : (slots : List Slot) → is_small slots ≡ true → (total slots ≤ 255) × (spare slots ≤ 4)
small_is slots h =
    let both = both_true (nat_le (total slots) 255) (nat_le (spare slots) 4) h in
    (let e = both.0 in grind (arith, nat_tests), let e = both.1 in grind (arith, nat_tests))

-- a method has at most 255 fields
pub few_fields : (class id : ℕ) (slots : List Slot) → slots_at class id ≡ Some slots → total slots ≤ 255
few_fields class id slots h = (small_is slots (slots_small class id slots h)).0

-- a method has at most 4 fields more than bytes behind its ids
pub few_spare : (class id : ℕ) (slots : List Slot) → slots_at class id ≡ Some slots → spare slots ≤ 4
few_spare class id slots h = (small_is slots (slots_small class id slots h)).1

-- what a method is made of that was read: both ids, and its fields
pub record MethodParts (payload : List ℕ) (m : Method) (n : ℕ) : Type 0 where
  pub class : ℕ
  pub id : ℕ
  pub slots : List Slot
  pub items : List Item
  pub used : ℕ
  pub class_is : judge_number bytes2 payload ≡ took class 2
  pub id_is : judge_number bytes2 (drop 2 payload) ≡ took id 2
  pub at : slots_at class id ≡ Some slots
  pub fields : judge_slots slots (drop 2 (drop 2 payload)) ≡ took items used
  pub is : m ≡ method class id items
  pub size : n ≡ 4 + used
  pub some : 4 ≤ length payload

-- a method that was read has its parts
pub method_parts : (payload : List ℕ) (m : Method) (n : ℕ) → judge_payload payload ≡ took m n → MethodParts payload m n
unfolding judge_payload judge_in_class judge_method
method_parts payload m n h =
    let class = bind_took (judge_number bytes2 payload) _ _ _ h in
    let behind = drop class.1 payload in
    let inner = bind_took (judge_in_class class.0 behind) _ _ _ class.3 in
    let rows = bind_took (known unknown_class (rows_of class.0)) _ _ _ inner.2 in
    let id = bind_took (judge_number bytes2 behind) _ _ _ rows.3 in
    let of_class = bind_took (judge_method class.0 id.0 (drop id.1 behind)) _ _ _ id.3 in
    let slots = bind_took (known unknown_method (slots_at class.0 id.0)) _ _ _ of_class.2 in
    let items = bind_took (judge_slots slots.0 (drop id.1 behind)) _ _ _ slots.3 in
    let one = number_took bytes2 payload _ _ class.2 in
    let two = number_took bytes2 behind _ _ id.2 in
    record {
      class = class.0;
      id = id.0;
      slots = slots.0;
      items = items.0;
      used = items.1;
      class_is = class.2 ∙ ap (took class.0) one.0;
      id_is = ap (λ k. judge_number bytes2 (drop k payload)) (sym one.0) ∙ id.2 ∙ ap (took id.0) two.0;
      at = (known_took unknown_method (slots_at class.0 id.0) slots.0 slots.1 slots.2).0;
      fields = ap₂ (λ a b. judge_slots slots.0 (drop b (drop a payload))) (sym one.0) (sym two.0) ∙ items.2;
      is = sym (value_took _ _ _ _ items.3 ∙ value_took _ _ _ _ of_class.3
          ∙ value_took _ _ _ _ inner.3);
      size = omega (
        arith,
        count_took _ _ _ _ items.3,
        count_took _ _ _ _ of_class.3,
        count_took _ _ _ _ inner.3,
        one.0,
        two.0,
      );
      some = omega (arith, one, two, length-drop class.1 payload);
    }

of_method : {deep : Bool} {bytes : List ℕ} {class id most : ℕ} {slots : List Slot} {items : List Item} {nodes : List Node} (m : Method)
    → m ≡ method class id items → slots_at class id ≡ Some slots → AreSet deep bytes (fields_from 0 (kinds_in slots) items) (total slots) nodes most
    → AreSet deep bytes (fields_from 0 (kinds_in (unwrap_or (slots_at m.class m.id) [])) m.items) (method_count m.class m.id) nodes most
of_method m is at h = rw (is, at) h

-- the nodes that are listed of a method are those of its fields
pub method_found : (deep : Bool) (bytes : List ℕ) (from to : ℕ) (payload : List ℕ) (n : ℕ) (m : Method)
    → IsAt bytes from to payload → judge_payload payload ≡ took m n
    → IsListed deep bytes payload (listed_method deep to payload)
    (fields_from 0 (kinds_in (unwrap_or (slots_at m.class m.id) [])) m.items) (method_count m.class m.id)
unfolding listed_method
method_found deep bytes from to payload n m all h =
    let p = method_parts payload m n h in
    let small = small_is p.slots (slots_small p.class p.id p.slots p.at) in
    let left = length-drop 2 payload in
    let size = length-drop 2 (drop 2 payload) in
    let at = at_drop (drop 2 payload) 2 (at_drop payload 2 all (omega (arith, p.some))) (omega (arith, p.some)) in
    let found = (slots_found deep bytes from to p.slots (drop 2 (drop 2 payload)) 0 (omega (arith, small)) at).there p.items p.used p.fields in (
      found.0,
      p.used,
      ap (λ j. j >>= λ c. judge_number bytes2 (drop c.1 payload) >>= λ i. listed_known deep to (slots_at c.0 i.0) (drop i.1 (drop c.1 payload))) p.class_is
          ∙ ap (λ j. j >>= λ i. listed_known deep to (slots_at p.class i.0) (drop i.1 (drop 2 payload))) p.id_is
          ∙ ap (λ o. listed_known deep to o (drop 2 (drop 2 payload))) p.at ∙ found.1,
      of_method m p.is p.at (record {
        number = from_count 0 (kinds_in p.slots) p.items (kinds_total p.slots ∙ sym found.3.number) ∙ kinds_total p.slots;
        nodes_are = record { means = found.3.fields.means; few = omega (arith, found.3.fields.few, small, p.some) };
      }),
    )
