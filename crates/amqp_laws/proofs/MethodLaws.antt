-- The laws of the table of methods, and of methods in payloads.
use Rattle.std.proofs.Common.{◌≡◌, ℕ, ◌+◌, ◌<◌, ◌≤◌, ◌^◌, ◌==◌, ◌&&◌, Bool, true, false, cond, List, [], ◌∷◌, ◌++◌, length, take, drop, Option, Some, None, Ok}
use Rattle.std.proofs.Common.{refl, sym, ap, ap₂, subst, ◌∙◌, append_assoc, arith}
use Rattle.std.proofs.lemmas.Bool.Decides.{nat_tests}
use Rattle.std.proofs.lemmas.List.{length-append, length-drop, drop_at}
use Rattle.std.proofs.Math.Seq.{take-add}
use Rattle.std.specs.Option.{option_and_then, unwrap_or}
use Rattle.std.specs.Map.{lookup}
use Rattle.amqp_types.specs.Levels.{Level, plain, tidy, strict}
use Rattle.amqp_types.specs.Judging.{Fault, took, unknown_class, unknown_method, ◌>>=◌, IsBytes, IsExact}
use Rattle.amqp_types.specs.Sizes.{measured}
use Rattle.amqp_types.specs.Numbers.{bytes2, number_bytes, judge_number, SpellsNumber}
use Rattle.amqp_types.specs.Slots.{Slot}
use Rattle.amqp_types.specs.SlotJudging.{judge_slots}
use Rattle.amqp_types.specs.SlotBytes.{slots_bytes, any_deep, any_long, items_size}
use Rattle.amqp_types.specs.SlotSpelling.{SpellsSlots}
use Rattle.amqp_types.specs.SlotLaws.{are_least, AreSlotsHeld}
use Rattle.amqp_types.specs.Rows.{Row, classes, rows_of, slots_at}
use Rattle.amqp_types.specs.Methods.{Method, method, known, method_bytes, payload_bytes, payload_size, judge_method, judge_in_class, judge_payload}
use Rattle.amqp_types.specs.MethodSpelling.{SpellsPayload}
use Rattle.amqp_types.specs.MethodLaws.{is_short, are_sound_rows, are_sound_classes, RowsAreLawful, PayloadsAreLawful}
use Rattle.amqp_types.specs.MethodLaws.{SpelledPayloadsAreBounded, HeldPayloadsAreReadBack}
use Rattle.amqp_types.proofs.Bytes.{IsBytes-drop}
use Rattle.amqp_types.proofs.FormLaws.{is_plain, one_at_each, numbers_lawful}
use Rattle.amqp_types.proofs.Took.{bind_took, value_took, count_took}
use Rattle.amqp_laws.proofs.SlotLaws.{both_true, slots_lawful, slots_bounded}
use Rattle.amqp_laws.proofs.SlotsHeld.{slots_held, slots_read_back}

-- ---- what stands in the table

short_fits : (n : ℕ) → is_short n ≡ true → n < 2 ^ 16
short_fits n h = grind (arith, nat_tests)

same_id : (n m : ℕ) → (n == m) ≡ true → m ≡ n
same_id n m h = grind (arith, nat_tests)

-- what holds of each key and its entry holds of what is looked up
module _ {X : Type 0} (Holds : ℕ → X → Type 0) where
  this_or_later : (here : Bool) (id key : ℕ) (one : X) (others : Option X) (found : X) → (here ≡ true → key ≡ id)
      → Holds key one → (others ≡ Some found → Holds id found) → cond here (Some one) others ≡ Some found → Holds id found
  this_or_later true id key one others found same holds more h =
      let is : one ≡ found = cc in
      let P : X → Type 0 = λ x. Holds id x in
      let Q : ℕ → Type 0 = λ k. Holds k one in
      subst P is (subst Q (same refl) holds)
  this_or_later false id key one others found same holds more h = more h

pub record IsSoundRow (id : ℕ) (slots : List Slot) : Type 0 where
  pub fits : id < 2 ^ 16
  pub least : are_least slots ≡ true

pub record IsSoundClass (id : ℕ) (rows : List Row) : Type 0 where
  pub fits : id < 2 ^ 16
  pub sound : are_sound_rows rows ≡ true

row_found : (rows : List Row) (id : ℕ) (slots : List Slot) → are_sound_rows rows ≡ true → lookup (λ key. id == key) rows ≡ Some slots → IsSoundRow id slots
row_found [] id slots sound h = absurd cc
row_found (row ∷ rows) id slots sound h =
    let all = both_true (is_short row.0 && are_least row.1) (are_sound_rows rows) sound in
    let here = both_true (is_short row.0) (are_least row.1) all.0 in
    this_or_later IsSoundRow (id == row.0) id row.0 row.1 (lookup (λ key. id == key) rows) slots (same_id id row.0)
    (record { fits = short_fits row.0 here.0; least = here.1 }) (row_found rows id slots all.1) h

class_found : (table : List (ℕ × List Row)) (id : ℕ) (rows : List Row) → are_sound_classes table ≡ true
    → lookup (λ key. id == key) table ≡ Some rows → IsSoundClass id rows
class_found [] id rows sound h = absurd cc
class_found (class ∷ table) id rows sound h =
    let all = both_true (is_short class.0 && are_sound_rows class.1) (are_sound_classes table) sound in
    let here = both_true (is_short class.0) (are_sound_rows class.1) all.0 in
    this_or_later IsSoundClass (id == class.0) id class.0 class.1 (lookup (λ key. id == key) table) rows
    (same_id id class.0) (record { fits = short_fits class.0 here.0; sound = here.1 }) (class_found table id rows all.1) h

found_both : {A B : Type 0} (f : A → Option B) (o : Option A) (y : B) → option_and_then f o ≡ Some y → (x : A) × (o ≡ Some x) × (f x ≡ Some y)
found_both f None y h = absurd cc
found_both f (Some x) y h = (x, refl, h)

-- a method of the table
pub record IsInTable (class id : ℕ) (slots : List Slot) : Type 0 where
  pub rows : List Row
  pub known : rows_of class ≡ Some rows
  pub class_fits : class < 2 ^ 16
  pub id_fits : id < 2 ^ 16
  pub least : are_least slots ≡ true

-- The fields that the table has at two ids stand in a row of these ids.
pub in_table : (class id : ℕ) (slots : List Slot) → slots_at class id ≡ Some slots → IsInTable class id slots
unfolding rows_of slots_at
in_table class id slots h =
    let both = found_both (λ rows. lookup (λ key. id == key) rows) (rows_of class) slots h in
    let of_class = class_found classes class both.0 refl both.1 in
    let of_row = row_found both.0 id slots of_class.sound both.2 in
    record { rows = both.0; known = both.1; class_fits = of_class.fits; id_fits = of_row.fits; least = of_row.least }

-- The laws of a form of bytes hold of the fields of each method of the table.
pub rows_lawful : RowsAreLawful
rows_lawful class id slots h = slots_lawful slots (in_table class id slots h).least

-- ---- what is decoded is encoded

-- Where a lookup in the table is decoded to a value, the table has that value.
pub known_took : {A : Type 0} (unknown : Fault) (o : Option A) (x : A) (n : ℕ) → known unknown o ≡ took x n → o ≡ Some x
known_took unknown None x n h = absurd cc
known_took unknown (Some y) x n h = ap Some (value_took y x 0 n h)

payload_spelled : (bytes : List ℕ) (m : Method) (n : ℕ) → IsBytes bytes
    → judge_payload bytes ≡ took m n → SpellsPayload plain (take n bytes) m × (n ≤ length bytes)
unfolding judge_payload judge_in_class judge_method
payload_spelled bytes m n fits h =
    let class = bind_took (judge_number bytes2 bytes) _ m n h in
    let behind = drop class.1 bytes in
    let inside = bind_took (judge_in_class class.0 behind) _ m n class.3 in
    let rows = bind_took (known unknown_class (rows_of class.0)) _ inside.0 inside.1 inside.2 in
    let id = bind_took (judge_number bytes2 behind) _ inside.0 inside.1 rows.3 in
    let rest = drop id.1 behind in
    let found = bind_took (judge_method class.0 id.0 rest) _ inside.0 inside.1 id.3 in
    let slots = bind_took (known unknown_method (slots_at class.0 id.0)) _ found.0 found.1 found.2 in
    let items = bind_took (judge_slots slots.0 rest) _ found.0 found.1 slots.3 in
    let is_known = known_took unknown_method (slots_at class.0 id.0) slots.0 slots.1 slots.2 in
    let first = (numbers_lawful bytes2).exact.spelled bytes class.0 class.1 fits class.2 in
    let second = (numbers_lawful bytes2).exact.spelled behind id.0 id.1 (IsBytes-drop class.1 bytes fits) id.2 in
    let third =
    (rows_lawful class.0 id.0 slots.0 is_known).exact.spelled rest items.0 items.1 (IsBytes-drop id.1 behind (IsBytes-drop class.1 bytes fits)) items.2 in
    let found_is : method class.0 id.0 items.0 ≡ found.0 = value_took _ found.0 _ found.1 items.3 in
    let found_count : items.1 ≡ found.1 = count_took _ found.0 _ found.1 items.3 in
    let inside_is : found.0 ≡ inside.0 = value_took _ inside.0 _ inside.1 found.3 in
    let inside_count : id.1 + found.1 ≡ inside.1 = count_took _ inside.0 _ inside.1 found.3 in
    let whole_is : inside.0 ≡ m = value_took _ m _ n inside.3 in
    let whole_count : class.1 + inside.1 ≡ n = count_took _ m _ n inside.3 in
    let all : class.1 + (id.1 + items.1) ≡ n = omega arith in
    let is_m : method class.0 id.0 items.0 ≡ m = found_is ∙ inside_is ∙ whole_is in
    let parts : take n bytes ≡ take class.1 bytes ++ (take id.1 behind ++ take items.1 rest) =
    ap (λ k. take k bytes) (sym all) ∙ take-add class.1 (id.1 + items.1) bytes ∙ ap (λ t. take class.1 bytes ++ t) (take-add id.1 items.1 behind) in
    let P : Method → Type 0 = λ y. SpellsPayload plain (take n bytes) y in (
      subst P is_m (record {
        slots = slots.0;
        class_bytes = take class.1 bytes;
        id_bytes = take id.1 behind;
        slot_bytes = take items.1 rest;
        known = is_known;
        bytes_are = parts;
        class_is = first.0;
        id_is = second.0;
        slots_are = third.0;
      }),
      omega (arith, first.1, second.1, third.1, length-drop class.1 bytes, length-drop id.1 behind, all),
    )

-- ---- what is encoded is decoded

-- the bytes of both ids, and fields of which this is decoded
judged : (m : Method) (slots : List Slot) (class_bytes id_bytes slot_bytes rest : List ℕ)
    → slots_at m.class m.id ≡ Some slots → SpellsNumber bytes2 class_bytes m.class → SpellsNumber bytes2 id_bytes m.id
    → judge_slots slots (slot_bytes ++ rest) ≡ took m.items (length slot_bytes)
    → judge_payload (class_bytes ++ (id_bytes ++ (slot_bytes ++ rest))) ≡ took m (length class_bytes + (length id_bytes + length slot_bytes))
unfolding judge_payload judge_in_class judge_method
judged m slots a b s rest is_known class_is id_is slots_are =
    let tail = s ++ rest in
    let table = in_table m.class m.id slots is_known in
    let first : judge_number bytes2 (a ++ (b ++ tail)) ≡ took m.class (length a) = (numbers_lawful bytes2).exact.taken a (b ++ tail) m.class class_is in
    let second : judge_number bytes2 (b ++ tail) ≡ took m.id (length b) = (numbers_lawful bytes2).exact.taken b tail m.id id_is in
    let row : judge_method m.class m.id tail ≡ took m (length s) =
    ap (λ o. known unknown_method o >>= λ x. judge_slots x.0 tail >>= λ y. took (method m.class m.id y.0) y.1) is_known
    ∙ ap (λ j. j >>= λ y. took (method m.class m.id y.0) y.1) slots_are in
    let inside : judge_in_class m.class (b ++ tail) ≡ took m (length b + length s) =
    ap
    (λ o. known unknown_class o >>= λ x. judge_number bytes2 (b ++ tail) >>= λ i. judge_method m.class i.0 (drop i.1 (b ++ tail)) >>= λ y. took y.0 (i.1 + y.1))
    table.known
    ∙ ap (λ j. j >>= λ i. judge_method m.class i.0 (drop i.1 (b ++ tail)) >>= λ y. took y.0 (i.1 + y.1)) second
    ∙ ap (λ bs. judge_method m.class m.id bs >>= λ y. took y.0 (length b + y.1)) (drop_at b tail (length b) refl)
    ∙ ap (λ j. j >>= λ y. took y.0 (length b + y.1)) row in
    ap (λ j. j >>= λ c. judge_in_class c.0 (drop c.1 (a ++ (b ++ tail))) >>= λ y. took y.0 (c.1 + y.1)) first
    ∙ ap (λ bs. judge_in_class m.class bs >>= λ y. took y.0 (length a + y.1)) (drop_at a (b ++ tail) (length a) refl)
    ∙ ap (λ j. j >>= λ y. took y.0 (length a + y.1)) inside

three_lengths : (a b c : List ℕ) → length (a ++ (b ++ c)) ≡ length a + (length b + length c)
three_lengths a b c = omega (arith, length-append a (b ++ c), length-append b c)

-- Three parts and a rest may be joined from either side.
pub three_behind : (a b c rest : List ℕ) → (a ++ (b ++ c)) ++ rest ≡ a ++ (b ++ (c ++ rest))
three_behind a b c rest = append_assoc a (b ++ c) rest ∙ ap (λ t. a ++ t) (append_assoc b c rest)

payload_taken : (bytes rest : List ℕ) (m : Method) → SpellsPayload plain bytes m → judge_payload (bytes ++ rest) ≡ took m (length bytes)
payload_taken bytes rest m h =
    let lawful = rows_lawful m.class m.id h.slots h.known in
    ap (λ bs. judge_payload (bs ++ rest)) h.bytes_are ∙ ap judge_payload (three_behind h.class_bytes h.id_bytes h.slot_bytes rest)
    ∙ judged m h.slots h.class_bytes h.id_bytes h.slot_bytes rest h.known h.class_is h.id_is (lawful.exact.taken h.slot_bytes rest m.items h.slots_are)
    ∙ ap (λ n. took m n) (sym (three_lengths h.class_bytes h.id_bytes h.slot_bytes) ∙ ap length (sym h.bytes_are))

payload_exact : IsExact judge_payload (SpellsPayload plain)
payload_exact = record { spelled = payload_spelled; taken = payload_taken }

-- ---- the other laws

-- The payload of a method is encoded at each level at which its fields are.
pub at_level : (level other : Level) (bytes : List ℕ) (m : Method) (h : SpellsPayload level bytes m)
    → SpellsSlots other h.slots h.slot_bytes m.items → SpellsPayload other bytes m
at_level level other bytes m h slots_are = record {
  slots = h.slots;
  class_bytes = h.class_bytes;
  id_bytes = h.id_bytes;
  slot_bytes = h.slot_bytes;
  known = h.known;
  bytes_are = h.bytes_are;
  class_is = h.class_is;
  id_is = h.id_is;
  slots_are = slots_are;
}

strict_is_tidy : (bytes : List ℕ) (m : Method) → SpellsPayload strict bytes m → SpellsPayload tidy bytes m
strict_is_tidy bytes m h = at_level strict tidy bytes m h ((rows_lawful m.class m.id h.slots h.known).strict_is_tidy h.slot_bytes m.items h.slots_are)

tidy_is_plain : (bytes : List ℕ) (m : Method) → SpellsPayload tidy bytes m → SpellsPayload plain bytes m
tidy_is_plain bytes m h = at_level tidy plain bytes m h ((rows_lawful m.class m.id h.slots h.known).tidy_is_plain h.slot_bytes m.items h.slots_are)

-- the canonical bytes of a method with these fields
pub payload_of_slots : (m : Method) (slots : List Slot) → slots_at m.class m.id ≡ Some slots
    → payload_bytes m ≡ number_bytes bytes2 m.class ++ (number_bytes bytes2 m.id ++ slots_bytes slots m.items)
unfolding payload_bytes method_bytes
payload_of_slots m slots is_known = ap (λ o. number_bytes bytes2 m.class ++ (number_bytes bytes2 m.id ++ slots_bytes (unwrap_or o []) m.items)) is_known

strict_is_canonical : (bytes : List ℕ) (m : Method) → SpellsPayload strict bytes m → bytes ≡ payload_bytes m
strict_is_canonical bytes m h =
    let slots_are = (rows_lawful m.class m.id h.slots h.known).strict_is_canonical h.slot_bytes m.items h.slots_are in
    h.bytes_are ∙ ap₂ (λ a t. a ++ t) h.class_is.bytes_are (ap₂ (λ b s. b ++ s) h.id_is.bytes_are slots_are) ∙ sym (payload_of_slots m h.slots h.known)

canonical_is_strict : (bytes : List ℕ) (m : Method) → SpellsPayload plain bytes m → SpellsPayload strict (payload_bytes m) m
canonical_is_strict bytes m h = record {
  slots = h.slots;
  class_bytes = number_bytes bytes2 m.class;
  id_bytes = number_bytes bytes2 m.id;
  slot_bytes = slots_bytes h.slots m.items;
  known = h.known;
  bytes_are = payload_of_slots m h.slots h.known;
  class_is = record { fits = h.class_is.fits; bytes_are = refl };
  id_is = record { fits = h.id_is.fits; bytes_are = refl };
  slots_are = (rows_lawful m.class m.id h.slots h.known).canonical_is_strict h.slot_bytes m.items h.slots_are;
}

shortest : (bytes : List ℕ) (m : Method) → SpellsPayload plain bytes m → length (payload_bytes m) ≤ length bytes
shortest bytes m h =
    let class_length = ap length h.class_is.bytes_are in
    let id_length = ap length h.id_is.bytes_are in
    let short = (rows_lawful m.class m.id h.slots h.known).shortest h.slot_bytes m.items h.slots_are in
    let whole : length (payload_bytes m) ≡ length (number_bytes bytes2 m.class) + (length (number_bytes bytes2 m.id) + length (slots_bytes h.slots m.items)) =
    ap length (payload_of_slots m h.slots h.known) ∙ three_lengths (number_bytes bytes2 m.class) (number_bytes bytes2 m.id) (slots_bytes h.slots m.items) in
    let given : length bytes ≡ length h.class_bytes + (length h.id_bytes + length h.slot_bytes) =
    ap length h.bytes_are ∙ three_lengths h.class_bytes h.id_bytes h.slot_bytes in
    omega (arith, class_length, id_length, short, whole, given)

-- The laws of a form of bytes hold of the payloads of methods.
pub payloads_lawful : PayloadsAreLawful
payloads_lawful = record {
  exact = payload_exact;
  strict_is_tidy = strict_is_tidy;
  tidy_is_plain = tidy_is_plain;
  one_meaning = one_at_each judge_payload SpellsPayload payload_exact (is_plain SpellsPayload strict_is_tidy tidy_is_plain);
  strict_is_canonical = strict_is_canonical;
  canonical_is_strict = canonical_is_strict;
  shortest = shortest;
}

-- what is encoded is neither long nor too deep
pub payloads_bounded : SpelledPayloadsAreBounded
payloads_bounded level bytes m h = slots_bounded level h.slots h.slot_bytes m.items h.slots_are

-- what programs hold is encoded strictly by its canonical bytes
pub payload_held : (m : Method) (slots : List Slot) → slots_at m.class m.id ≡ Some slots → AreSlotsHeld slots m.items
    → any_deep m.items ≡ false → any_long m.items ≡ false → SpellsPayload strict (payload_bytes m) m
payload_held m slots is_known held shallow short =
    let table = in_table m.class m.id slots is_known in
    record {
      slots = slots;
      class_bytes = number_bytes bytes2 m.class;
      id_bytes = number_bytes bytes2 m.id;
      slot_bytes = slots_bytes slots m.items;
      known = is_known;
      bytes_are = payload_of_slots m slots is_known;
      class_is = record { fits = table.class_fits; bytes_are = refl };
      id_is = record { fits = table.id_fits; bytes_are = refl };
      slots_are = slots_held slots m.items table.least held shallow short;
    }

-- what has a size has it with other bytes too
sized_alike : (deep long : Bool) (xs ys : List ℕ) (n : ℕ) → measured deep long xs ≡ Ok n → measured deep long ys ≡ Ok (length ys)
sized_alike true long xs ys n h = absurd cc
sized_alike false true xs ys n h = absurd cc
sized_alike false false xs ys n h = refl

-- Canonical bytes of a method that is neither long nor too deep are read back, whatever follows.
pub payloads_read_back : HeldPayloadsAreReadBack
unfolding payload_size items_size
payloads_read_back m slots rest is_known held size =
    let table = in_table m.class m.id slots is_known in
    let a = number_bytes bytes2 m.class in
    let b = number_bytes bytes2 m.id in
    let s = slots_bytes slots m.items in
    let slots_are =
    slots_read_back slots m.items rest table.least held
    (sized_alike (any_deep m.items) (any_long m.items) (payload_bytes m) s (length (payload_bytes m)) size) in
    let whole = payload_of_slots m slots is_known in
    ap (λ bs. judge_payload (bs ++ rest)) whole ∙ ap judge_payload (three_behind a b s rest)
    ∙ judged m slots a b s rest is_known (record { fits = table.class_fits; bytes_are = refl }) (record { fits = table.id_fits; bytes_are = refl }) slots_are
    ∙ ap (λ n. took m n) (sym (three_lengths a b s) ∙ ap length (sym whole))
