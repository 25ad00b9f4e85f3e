-- Methods, properties and content headers that were read, by the parts in which they are put.
use Rattle.amqp_canonical.specs.Payloads.{canonical_header, canonical_method}
use Rattle.std.proofs.Common.{◌≡◌, ◌<◌, ◌≤◌, ◌^◌, ◌%◌, ◌-◌, ℕ, zero, suc, ◌+◌, nat_lt, eqb, true, false, List, [], ◌∷◌, ◌++◌, length, get_or, take, drop, map}
use Rattle.std.proofs.Common.{Option, Some, None, refl, sym, ap, ap₂, ◌∙◌, arith}
use Rattle.std.proofs.lemmas.Bool.{le-ltb, ltb-false}
use Rattle.std.proofs.lemmas.List.{length-map, drop-drop, length-drop}
use Rattle.std.specs.Prelude.{is_some, unwrap_or}
use Rattle.std.specs.Int.{bit_at}
use Rattle.amqp_types.specs.Levels.{plain}
use Rattle.amqp_types.specs.Judging.{Judge, Judged, took, unknown_class, unknown_method, ◌>>=◌, IsBytes}
use Rattle.amqp_types.specs.Sequences.{judge_map}
use Rattle.amqp_types.specs.Tidiness.{used_by}
use Rattle.amqp_types.specs.Numbers.{NumberWidth, bytes2, bytes8, byte_count, number_bytes, judge_number}
use Rattle.amqp_types.specs.Flags.{flag_at}
use Rattle.amqp_types.specs.Slots.{Item, number_item, number_form, Slot, kept_slot, reserved_slot}
use Rattle.amqp_types.specs.Slots as meant
use Rattle.amqp_types.specs.SlotJudging.{judge_form, judge_dropped, judge_slot, judge_slots}
use Rattle.amqp_types.specs.SlotBytes.{form_bytes, slots_bytes}
use Rattle.amqp_types.specs.Rows.{rows_of, slots_at}
use Rattle.amqp_types.specs.Methods.{method, known, judge_method, judge_in_class, judge_payload, method_bytes, payload_bytes}
use Rattle.amqp_types.specs.Properties.{Property, properties, later_properties}
use Rattle.amqp_types.specs.ContentHeaders.{header_slots, header_of_parts, judge_content_header, content_header_bytes}
use Rattle.amqp_types.specs.PropertyJudging.{first_item, judge_optional, judge_set, judge_properties}
use Rattle.amqp_types.specs.PropertyBytes.{optional_bytes, set_bytes, mask_of, properties_bytes}
use Rattle.amqp_types.specs.PropertyLaws.{gives_one, give_one}
use Rattle.amqp_types.proofs.Bytes.{IsBytes-drop}
use Rattle.amqp_types.proofs.Took.{guard_took, value_took, count_took}
use Rattle.amqp_types.proofs.FormLaws.{numbers_lawful}
use Rattle.amqp_laws.proofs.SlotForms.{forms_lawful, form_gives}
use Rattle.amqp_laws.proofs.SlotLaws.{both_true, slot_then}
use Rattle.amqp_laws.proofs.Masks.{set_flags, mask_is, mask_of-flags}
use Rattle.amqp_laws.proofs.Options.{sets_lawful, set_gives, counted_one}
use Rattle.amqp_laws.proofs.PropertyLaws.{one_each}
use Rattle.amqp_laws.proofs.MethodLaws.{known_took}
use Rattle.amqp_canonical.specs.declared.shapes.Form.{Form}
use Rattle.amqp_canonical.specs.Shapes.{form_of, property_of}
use Rattle.amqp_canonical.specs.Writes.{IsRead, PutsIfRoom, canonical_of}
use Rattle.amqp_canonical.proofs.Putting.{none_put, same_put}
use Rattle.amqp_canonical.proofs.PutSoFar.{IsJoined, PutSoFar, so_far_here, so_far_end, map_from}
use Rattle.amqp_canonical.proofs.ReadParts.{Uses, took_of, is_read, bind_read, same_count}

-- ---- numbers

number_size : (width : NumberWidth) (bytes : List ℕ) (x n : ℕ) → judge_number width bytes ≡ took x n
    → (n ≡ byte_count width) × (byte_count width ≤ length bytes)
number_size width bytes x n h =
    let long = guard_took (nat_lt (length bytes) (byte_count width)) _ x n h in
    (sym (count_took _ x (byte_count width) n long.1), ltb-false (length bytes) (byte_count width) long.0)

-- A number that is decoded takes as many bytes as its width has.
pub number_took : (width : NumberWidth) (bytes : List ℕ) (x n : ℕ) → judge_number width bytes ≡ took x n → judge_number width bytes ≡ took x (byte_count width)
number_took width bytes x n h = let size = number_size width bytes x n h in h ∙ ap (took x) size.0

-- ---- methods

-- the fields of a method, and its bytes
pub record PayloadPut (bytes : List ℕ) (class id : ℕ) : Type 0 where
  pub slots : List Slot
  pub known_slots : slots_at class id ≡ Some slots
  pub read : IsRead (judge_slots slots (drop 4 bytes))
  pub bytes_are : canonical_method bytes
      ≡ number_bytes bytes2 class ++ (number_bytes bytes2 id ++ canonical_of (slots_bytes slots) (judge_slots slots (drop 4 bytes)))

-- what was read of a method in a payload, with both ids
pub payload_read : (bytes : List ℕ) → IsRead (judge_payload bytes)
    → (class : ℕ) × (id : ℕ) × (judge_number bytes2 bytes ≡ took class 2) × (judge_number bytes2 (drop 2 bytes) ≡ took id 2) × PayloadPut bytes class id
unfolding judge_payload judge_in_class judge_method payload_bytes method_bytes
payload_read bytes h =
    let canonical = canonical_of payload_bytes in
    let class = bind_read (judge_number bytes2 bytes) _ h in
    let inside = bind_read (judge_in_class class.0 (drop class.1 bytes)) _ class.3 in
    let rows = bind_read (known unknown_class (rows_of class.0)) _ (is_read _ inside.0 inside.1 inside.2) in
    let id = bind_read (judge_number bytes2 (drop class.1 bytes)) _ rows.3 in
    let behind = bind_read (judge_method class.0 id.0 (drop id.1 (drop class.1 bytes))) _ id.3 in
    let slots = bind_read (known unknown_method (slots_at class.0 id.0)) _ (is_read _ behind.0 behind.1 behind.2) in
    let items = bind_read (judge_slots slots.0 (drop id.1 (drop class.1 bytes))) _ slots.3 in
    let two = number_size bytes2 bytes class.0 class.1 class.2 in
    let more = number_size bytes2 (drop class.1 bytes) id.0 id.1 id.2 in
    let four : drop id.1 (drop class.1 bytes) ≡ drop 4 bytes = ap₂ (λ m n. drop m (drop n bytes)) more.0 two.0 ∙ drop-drop 2 2 bytes in
    let is : judge_slots slots.0 (drop 4 bytes) ≡ took items.0 items.1 = sym (ap (judge_slots slots.0) four) ∙ items.2 in
    let ids = λ (bs : List ℕ). number_bytes bytes2 class.0 ++ (number_bytes bytes2 id.0 ++ bs) in
    let known_slots = known_took unknown_method (slots_at class.0 id.0) slots.0 slots.1 slots.2 in (
      class.0,
      id.0,
      number_took bytes2 bytes class.0 class.1 class.2,
      ap (λ n. judge_number bytes2 (drop n bytes)) (sym two.0) ∙ number_took bytes2 (drop class.1 bytes) id.0 id.1 id.2,
      record {
        slots = slots.0;
        known_slots = known_slots;
        read = is_read (judge_slots slots.0 (drop 4 bytes)) items.0 items.1 is;
        bytes_are =
            ap canonical (class.4 ∙ inside.4) ∙ sym (ap canonical inside.2) ∙ ap canonical (rows.4 ∙ id.4 ∙ behind.4) ∙ sym (ap canonical behind.2)
            ∙ ap canonical (slots.4 ∙ items.4) ∙ ap (λ o. ids (slots_bytes (unwrap_or o []) items.0)) known_slots
            ∙ sym (ap ids (ap (canonical_of (slots_bytes slots.0)) is));
      },
    )

-- both ids of it have their bytes
pub payload_long : (bytes : List ℕ) → IsRead (judge_payload bytes) → 4 ≤ length bytes
payload_long bytes h =
    let r = payload_read bytes h in
    let size = number_size bytes2 (drop 2 bytes) r.1 2 r.3 in
    omega (arith, length-drop 2 bytes, size.1)

-- ---- properties

first_is : (form : meant.Form) (items : List Item) → length items ≡ 1 → optional_bytes form (first_item items) ≡ form_bytes form items
unfolding optional_bytes
first_is form [] h = absurd (omega (arith, h))
first_is form (x ∷ []) h = refl
first_is form (x ∷ y ∷ items) h = absurd (omega (arith, h))

-- the option that a property gives
option_bytes : (form : meant.Form) (bytes : List ℕ) (items : List Item) (n : ℕ) → gives_one form ≡ true → IsBytes bytes
    → judge_form form bytes ≡ took items n → optional_bytes form (first_item items) ≡ form_bytes form items
unfolding optional_bytes
option_bytes form bytes items n one fits is =
    let laws = forms_lawful form in
    let spelled = laws.exact.spelled bytes items n fits is in
    let gives = form_gives form (take n bytes) items spelled.0 in
    first_is form items (gives.count ∙ counted_one form one)

-- decoding one property, where the mask says that it is set
abbrev pub one_property : ℕ → Property → Judge (Option Item)
one_property mask p = judge_optional (flag_at mask p.bit) p.form

abbrev pub property_bytes : Property → Option Item → List ℕ
property_bytes p option = optional_bytes p.form option

-- The properties that a mask sets are put one after another.
set_joined : (mask : ℕ) → IsJoined (one_property mask) (judge_set mask) property_bytes set_bytes (λ option options. option ∷ options)
unfolding judge_set set_bytes
set_joined mask = record { step = λ p ps bytes. refl; bytes_are = λ p ps bytes x n y fits is. refl; none = λ bytes. refl }

-- the first k properties were put, up to a place, and the others are left
abbrev pub SetPut : ℕ → List ℕ → List ℕ → ℕ → List ℕ → List ℕ → ℕ → ℕ → Type 0
SetPut mask = PutSoFar (one_property mask) (judge_set mask) property_bytes set_bytes properties

-- Where none is left, all properties that are set were put.
pub set_end : (ps : List (ℕ × Form)) (mask : ℕ) {bytes left : List ℕ} {k : ℕ} {old new : List ℕ} {at end : ℕ} → map property_of ps ≡ properties → length ps ≤ k
    → SetPut mask bytes left k old new at end → PutsIfRoom old new at (canonical_of (set_bytes properties) (judge_set mask properties bytes)) end
set_end ps mask is long = so_far_end (set_joined mask) (omega (arith, length-map ps property_of, ap length is, long))

one_at : (ps : List Property) (k : ℕ) (p : Property) (rest : List Property) → give_one ps ≡ true → drop k ps ≡ p ∷ rest → gives_one p.form ≡ true
one_at [] zero p rest h is = absurd cc
one_at [] (suc k) p rest h is = absurd cc
one_at (q ∷ ps) zero p rest h is =
    let both = both_true (gives_one q.form) (give_one ps) h in
    ap (λ (x : Property). gives_one x.form) (let same : p ≡ q = cc in same) ∙ both.0
one_at (q ∷ ps) (suc k) p rest h is = let both = both_true (gives_one q.form) (give_one ps) h in one_at ps k p rest both.1 is

-- a property that is there
pub record PropertyHere (mask : ℕ) (form : meant.Form) (bytes left : List ℕ) (k n : ℕ) (old mid : List ℕ) (at end : ℕ) : Type 0 where
  pub read : IsRead (judge_form form left)
  pub within : end + length (canonical_of (form_bytes form) (judge_form form left))
      ≤ at + length (canonical_of (set_bytes properties) (judge_set mask properties bytes))
  pub next : (new : List ℕ) (place : ℕ) → PutsIfRoom mid new end (canonical_of (form_bytes form) (judge_form form left)) place
      → SetPut mask bytes (drop n left) (k + 1) old new at place

-- by the forms that the property table is made of
module _ (ps : List (ℕ × Form)) (d : ℕ × Form) (mask : ℕ) {k : ℕ} {bytes left old mid : List ℕ} {at end : ℕ}
    (is : map property_of ps ≡ properties) (more : k < length ps) (h : SetPut mask bytes left k old mid at end) where
  from : drop k properties ≡ property_of (get_or ps k d) ∷ drop (k + 1) properties
  from = rw (← is) (map_from property_of ps k d more)

  -- A property that the mask says is set was decoded, its canonical bytes fit, and it is put next.
  pub property_here : {n : ℕ} → flag_at mask (get_or ps k d).0 ≡ true
      → Uses (judge_form (form_of (get_or ps k d).1) left) n
      → PropertyHere mask (form_of (get_or ps k d).1) bytes left k n old mid at end
  unfolding judge_optional
  property_here {n} there sized =
      let p = property_of (get_or ps k d) in
      let there_is : one_property mask p left ≡ judge_map first_item (judge_form p.form) left = rw there refl in
      let used : Uses (one_property mask p left) n = λ r.
      let same = same_count (judge_form p.form left) _ (λ x n r. refl) (rw there_is at r) in
      sized same.0 ∙ same.1 ∙ sym (ap used_by there_is) in
      let here = so_far_here (set_joined mask) from used h in
      let one = bind_read (judge_form p.form left) _ (rw there_is at here.read) in
      let gives = one_at properties k p (drop (k + 1) properties) one_each from in
      let put : canonical_of (form_bytes p.form) (judge_form p.form left) ≡ canonical_of (property_bytes p) (one_property mask p left) =
      ap (canonical_of (form_bytes p.form)) one.2 ∙ sym (option_bytes p.form left one.0 one.1 gives h.fits one.2)
      ∙ sym (ap (canonical_of (property_bytes p)) (there_is ∙ one.4)) in
      record {
        read = is_read (judge_form p.form left) one.0 one.1 one.2;
        within = omega (arith, ap length put, here.within);
        next = λ new place puts. here.next new place (same_put put puts);
      }

  -- A property that the mask does not say is set is passed over, with nothing put.
  pub property_past : flag_at mask (get_or ps k d).0 ≡ false → SetPut mask bytes left (k + 1) old mid at end
  unfolding optional_bytes judge_optional
  property_past none =
      let p = property_of (get_or ps k d) in
      let same : one_property mask p left ≡ took None 0 = rw none refl in
      let here = so_far_here {n = 0} (set_joined mask) from (λ read. sym (ap used_by same)) h in
      here.next mid end (none_put mid end _ (ap (canonical_of (property_bytes p)) same))

-- ---- the mask

-- the same bits but for the two lowest
module _ (mask : ℕ) where
  abbrev cleared : ℕ
  cleared = mask - mask % 4

  same_flag : (k : ℕ) → bit_at cleared k ≡ bit_at mask k → flag_at cleared k ≡ flag_at mask k
  same_flag k is = ap (λ n. eqb n 1) is

  same_set : set_flags cleared properties ≡ set_flags mask properties
  unfolding properties later_properties
  same_set =
      rw (
        same_flag 15 (omega arith),
        same_flag 14 (omega arith),
        same_flag 13 (omega arith),
        same_flag 12 (omega arith),
        same_flag 11 (omega arith),
        same_flag 10 (omega arith),
        same_flag 9 (omega arith),
        same_flag 8 (omega arith),
        same_flag 7 (omega arith),
        same_flag 6 (omega arith),
        same_flag 5 (omega arith),
        same_flag 4 (omega arith),
        same_flag 3 (omega arith),
        same_flag 2 (omega arith),
      ) refl

  none_at : (k : ℕ) → bit_at cleared k ≡ 0 → flag_at cleared k ≡ false
  none_at k is = ap (λ n. eqb n 1) is

  mask_cleared : (options : List (Option Item)) → mask < 2 ^ 16 → set_flags mask properties ≡ map is_some options → cleared ≡ mask_of properties options
  mask_cleared options fits there =
      mask_is cleared (map is_some options)
      (record { fits = omega (arith, fits); lowest = none_at 0 (omega arith); second = none_at 1 (omega arith); set = same_set ∙ there })
      ∙ sym (mask_of-flags properties options)

-- a mask, and the properties that are set
pub record PropertiesPut (bytes : List ℕ) (mask : ℕ) : Type 0 where
  pub read : IsRead (judge_set mask properties (drop 2 bytes))
  pub bytes_are : canonical_of properties_bytes (judge_properties bytes)
      ≡ number_bytes bytes2 (mask - mask % 4) ++ canonical_of (set_bytes properties) (judge_set mask properties (drop 2 bytes))

-- Where properties are decoded, so are those that the mask sets, and their canonical bytes are a mask and those of each.
pub properties_put : (bytes : List ℕ) (mask : ℕ) → IsBytes bytes → IsRead (judge_properties bytes)
    → (IsRead (judge_number bytes2 bytes) → judge_number bytes2 bytes ≡ took mask 2) → PropertiesPut bytes mask
unfolding judge_properties properties_bytes form_bytes
properties_put bytes mask fits h decides =
    let m = bind_read (judge_number bytes2 bytes) _ h in
    let s = bind_read (judge_set m.0 properties (drop m.1 bytes)) _ m.3 in
    let two = number_size bytes2 bytes m.0 m.1 m.2 in
    let is = decides (is_read (judge_number bytes2 bytes) m.0 m.1 m.2) in
    let same = value_took m.0 mask m.1 2 (sym m.2 ∙ is) in
    let set : judge_set mask properties (drop 2 bytes) ≡ took s.0 s.1 = sym (ap₂ (λ x n. judge_set x properties (drop n bytes)) same two.0) ∙ s.2 in
    let spelled = (sets_lawful mask properties one_each).exact.spelled (drop 2 bytes) s.0 s.1 (IsBytes-drop 2 bytes fits) set in
    let gives = set_gives plain mask properties (take s.1 (drop 2 bytes)) s.0 one_each spelled.0 in
    let number = (numbers_lawful bytes2).exact.spelled bytes mask 2 fits is in
    record {
      read = is_read (judge_set mask properties (drop 2 bytes)) s.0 s.1 set;
      bytes_are = ap (canonical_of properties_bytes) (m.4 ∙ s.4)
          ∙ sym (ap₂ (λ x bs. number_bytes bytes2 x ++ bs) (mask_cleared mask s.0 number.0.fits gives.there) (ap (canonical_of (set_bytes properties)) set));
    }

-- ---- content headers

kept_size : (width : NumberWidth) (bytes : List ℕ) → IsRead (judge_form (number_form width) bytes)
    → (byte_count width ≡ used_by (judge_form (number_form width) bytes)) × (byte_count width ≤ length bytes)
unfolding judge_form
kept_size width bytes h =
    let one = bind_read (judge_number width bytes) _ h in
    let size = number_size width bytes one.0 one.1 one.2 in
    (sym (ap used_by one.4 ∙ size.0), size.1)

dropped_size : (width : NumberWidth) (bytes : List ℕ) → IsRead (judge_dropped (number_form width) bytes)
    → (byte_count width ≡ used_by (judge_dropped (number_form width) bytes)) × (byte_count width ≤ length bytes)
unfolding judge_dropped
dropped_size width bytes h =
    let one = bind_read (judge_form (number_form width) bytes) _ h in
    let size = kept_size width bytes (is_read _ one.0 one.1 one.2) in
    (size.0 ∙ ap used_by one.2 ∙ sym (ap used_by one.4), size.1)

-- a field of n bytes, and those after it
sized_slot : (n : ℕ) (slot : Slot) (slots : List Slot) (bytes : List ℕ)
    → (IsRead (judge_slot slot bytes) → (n ≡ used_by (judge_slot slot bytes)) × (n ≤ length bytes))
    → IsRead (judge_slots (slot ∷ slots) bytes) → (n ≤ length bytes) × IsRead (judge_slots slots (drop n bytes))
unfolding judge_slots
sized_slot n slot slots bytes sized h =
    let one = bind_read (judge_slot slot bytes) _ h in
    let two = bind_read (judge_slots slots (drop one.1 bytes)) _ one.3 in
    let size = sized (is_read _ one.0 one.1 one.2) in
    (size.1, is_read _ two.0 two.1 (ap (λ m. judge_slots slots (drop m bytes)) (size.0 ∙ ap used_by one.2) ∙ two.2))

abbrev weight_slot : Slot
weight_slot = reserved_slot (number_form bytes2) (number_item 0 ∷ [])

header_long : (bytes : List ℕ) → IsRead (judge_slots header_slots bytes) → 12 ≤ length bytes
unfolding header_slots
header_long bytes h =
    let behind = drop 2 (drop 2 bytes) in
    let a = sized_slot 2 (kept_slot (number_form bytes2)) (weight_slot ∷ kept_slot (number_form bytes8) ∷ []) bytes (kept_size bytes2 bytes) h in
    let b = sized_slot 2 weight_slot (kept_slot (number_form bytes8) ∷ []) (drop 2 bytes) (dropped_size bytes2 (drop 2 bytes)) a.1 in
    let c = sized_slot 8 (kept_slot (number_form bytes8)) [] behind (kept_size bytes8 behind) b.1 in
    omega (arith, a.0, b.0, c.0, length-drop 2 bytes, length-drop 2 (drop 2 bytes))

-- what stands in front of the properties, whatever the weight
pub front_read : (bytes : List ℕ) (class weight size : ℕ) → judge_number bytes2 bytes ≡ took class 2 → judge_number bytes2 (drop 2 bytes) ≡ took weight 2
    → judge_number bytes8 (drop 2 (drop 2 bytes)) ≡ took size 8 → judge_slots header_slots bytes ≡ took (number_item class ∷ number_item size ∷ []) 12
unfolding header_slots judge_slots judge_form judge_dropped
front_read bytes class weight size one two three =
    let behind = drop 2 (drop 2 bytes) in
    let kept : Judged ℕ → Judged (List Item) = λ j. j >>= λ x. took (number_item x.0 ∷ []) x.1 in
    let last = slot_then (kept_slot (number_form bytes8)) [] behind (number_item size ∷ []) [] 8 0 (ap kept three) refl in
    let middle =
    slot_then weight_slot (kept_slot (number_form bytes8) ∷ []) (drop 2 bytes) [] (number_item size ∷ []) 2 8
    (ap (λ j. kept j >>= λ x. took [] x.1) two) last in
    slot_then (kept_slot (number_form bytes2)) (weight_slot ∷ kept_slot (number_form bytes8) ∷ []) bytes
    (number_item class ∷ []) (number_item size ∷ []) 2 10 (ap kept one) middle

-- a number is read where there are bytes enough
pub number_here : (width : NumberWidth) (bytes : List ℕ) → byte_count width ≤ length bytes → IsRead (judge_number width bytes)
number_here width bytes long = rw (le-ltb (length bytes) (byte_count width) long) tt

number_is : (width : NumberWidth) (bytes : List ℕ) → byte_count width ≤ length bytes → (x : ℕ) × (judge_number width bytes ≡ took x (byte_count width))
number_is width bytes long =
    let one = took_of (judge_number width bytes) (number_here width bytes long) in
    (one.0, number_took width bytes one.0 one.1 one.2)

-- Where there are 12 bytes, the front of a content header is read of them.
pub front_here : (bytes : List ℕ) → 12 ≤ length bytes
    → (class : ℕ) × (size : ℕ) × (judge_slots header_slots bytes ≡ took (number_item class ∷ number_item size ∷ []) 12)
    × (judge_number bytes2 bytes ≡ took class 2) × (judge_number bytes8 (drop 4 bytes) ≡ took size 8)
front_here bytes long =
    let behind = drop 2 (drop 2 bytes) in
    let a = number_is bytes2 bytes (omega (arith, long)) in
    let b = number_is bytes2 (drop 2 bytes) (omega (arith, long, length-drop 2 bytes)) in
    let c = number_is bytes8 behind (omega (arith, long, length-drop 2 bytes, length-drop 2 (drop 2 bytes))) in
    (a.0, c.0, front_read bytes a.0 b.0 c.0 a.1 b.1 c.1, a.1, ap (judge_number bytes8) (sym (drop-drop 2 2 bytes)) ∙ c.1)

-- a header by what stands in front of its properties
pub header_by : (bytes : List ℕ) (class size : ℕ) → judge_slots header_slots bytes ≡ took (number_item class ∷ number_item size ∷ []) 12
    → judge_content_header bytes ≡ (judge_properties (drop 12 bytes) >>= λ y. took (header_of_parts (number_item class ∷ number_item size ∷ []) y.0) (12 + y.1))
unfolding judge_content_header
header_by bytes class size front = ap (λ j. j >>= λ x. (judge_properties (drop x.1 bytes)) >>= λ y. took (header_of_parts x.0 y.0) (x.1 + y.1)) front

pub record HeaderPut (bytes : List ℕ) : Type 0 where
  pub long : 12 ≤ length bytes
  pub front : IsRead (judge_slots header_slots bytes)
  pub after : IsRead (judge_properties (drop 12 bytes))
  pub bytes_are : canonical_header bytes
      ≡ canonical_of (slots_bytes header_slots) (judge_slots header_slots bytes) ++ canonical_of properties_bytes (judge_properties (drop 12 bytes))

-- Where a content header is decoded, so are its front and its properties, and its canonical bytes are those of both.
pub header_put : (bytes : List ℕ) → IsRead (judge_content_header bytes) → HeaderPut bytes
unfolding judge_content_header content_header_bytes
header_put bytes h =
    let one = bind_read (judge_slots header_slots bytes) _ h in
    let read = is_read (judge_slots header_slots bytes) one.0 one.1 one.2 in
    let long = header_long bytes read in
    let front = front_here bytes long in
    let is = header_by bytes front.0 front.1 front.2 in
    let after = bind_read (judge_properties (drop 12 bytes)) _ (rw is at h) in
    record {
      long = long;
      front = read;
      after = is_read (judge_properties (drop 12 bytes)) after.0 after.1 after.2;
      bytes_are = ap (canonical_of content_header_bytes) (is ∙ after.4)
          ∙ sym (ap₂ (λ a b. a ++ b) (ap (canonical_of (slots_bytes header_slots)) front.2) (ap (canonical_of properties_bytes) after.2));
    }
