-- What fields were read of, and the bytes in which they are put.
use Rattle.std.proofs.Common.{Bor, ◌≡◌, ◌<◌, ◌≤◌, ◌^◌, ◌*◌, ◌/◌, ◌%◌, ℕ, zero, suc, ◌+◌, nat_lt, eqb, cond, Bool, true, false, List, [], ◌∷◌, ◌++◌, length}
use Rattle.std.proofs.Common.{get_or, take, map, refl, sym, ap, ap₂, ◌∙◌, arith}
use Rattle.std.proofs.lemmas.Bool.{le-ltb}
use Rattle.std.proofs.lemmas.List.{take_at, drop_at}
use Rattle.std.proofs.lemmas.Nat.{div-add-mod', pow_pos}
use Rattle.std.proofs.lemmas.Nat.Bits.{bit_at_cat_low}
use Rattle.std.specs.Int.{bit_at}
use Rattle.amqp_types.specs.Levels.{plain}
use Rattle.amqp_types.specs.Judging.{took, past, ◌>>=◌, IsBytes}
use Rattle.amqp_types.specs.Numbers.{NumberWidth, bytes1, byte_count, judge_number}
use Rattle.amqp_types.specs.Flags.{flags_from, flags_byte, judge_flags}
use Rattle.amqp_types.specs.Strings.{judge_short_string, judge_long_string}
use Rattle.amqp_types.specs.Tidiness.{used_by}
use Rattle.amqp_types.specs.ValueBytes.{table_bytes}
use Rattle.amqp_types.specs.ValueJudging.{judge_field_table, judge_value}
use Rattle.amqp_types.specs.Slots.{Item, flag_item, number_form, flags_form, short_string_form, long_string_form, table_form, kept_slot, reserved_slot}
use Rattle.amqp_types.specs.Slots as meant
use Rattle.amqp_types.specs.SlotJudging.{judge_form, judge_dropped, judge_slot, judge_slots}
use Rattle.amqp_types.specs.SlotBytes.{item_count, form_bytes, slots_bytes}
use Rattle.amqp_types.specs.SlotSpelling.{SpellsForm}
use Rattle.amqp_types.proofs.FormLaws.{flags_byte_back}
use Rattle.amqp_types.proofs.Took.{bind_took, value_took}
use Rattle.amqp_laws.proofs.SlotForms.{flags_of-map, forms_lawful, form_gives}
use Rattle.amqp_canonical.specs.declared.shapes.Form.{Form}
use Rattle.amqp_canonical.specs.declared.shapes.Form.TheVariants as forms
use Rattle.amqp_canonical.specs.declared.shapes.Slot.{Slot}
use Rattle.amqp_canonical.specs.declared.shapes.Slot.TheVariants as slots
use Rattle.amqp_canonical.specs.Shapes.{form_of, slot_of, has_constant}
use Rattle.amqp_canonical.specs.Writes.{IsRead, IsCopied, canonical_of, slot_bytes, key_in}
use Rattle.amqp_canonical.proofs.Constants.{constant_put}
use Rattle.amqp_canonical.proofs.ReadParts.{Uses, took_of, is_read, bind_read, same_count, text_parts}
use Rattle.amqp_canonical.proofs.PutSoFar.{IsJoined, PutSoFar}
use Rattle.amqp_canonical.proofs.Sizes.{table_length}

-- ---- sizes

judged_by : (b : Bool) (x n : ℕ) → Uses (cond b past (took x n)) n
judged_by true x n h = absurd h
judged_by false x n h = refl

-- A number as a field takes the bytes of its width.
pub number_used : (width : NumberWidth) (bytes : List ℕ) → Uses (judge_form (number_form width) bytes) (byte_count width)
unfolding judge_form
number_used width bytes h =
    let one = same_count (judge_number width bytes) _ (λ x n r. refl) h in
    judged_by (nat_lt (length bytes) (byte_count width)) _ _ one.0 ∙ one.1

-- Flags take 1 byte, however many they are.
pub flags_used : (count : ℕ) (bytes : List ℕ) → Uses (judge_form (flags_form count) bytes) 1
unfolding judge_form judge_flags
flags_used count bytes h =
    let one = same_count (judge_flags count bytes) _ (λ x n r. refl) h in
    let two = same_count (judge_number bytes1 bytes) _ (λ x n r. refl) one.0 in
    judged_by (nat_lt (length bytes) 1) _ _ two.0 ∙ two.1 ∙ one.1

-- A short string as a field takes 1 byte and the bytes of the string.
pub text_used : (bytes : List ℕ) (k : ℕ) → k ≡ length (key_in bytes)
    → Uses (judge_form short_string_form bytes) (1 + k)
unfolding judge_form
text_used bytes k is h =
    let one = bind_read (judge_short_string bytes) _ h in
    let parts = text_parts bytes one.0 one.1 one.2 in
    omega (arith, is, parts.1, ap used_by one.4)

-- A long string as a field takes what the string takes.
pub long_used : (bytes : List ℕ) (n : ℕ) → Uses (judge_long_string bytes) n
    → Uses (judge_form long_string_form bytes) n
unfolding judge_form
long_used bytes n used h = let one = same_count (judge_long_string bytes) _ (λ x n r. refl) h in used one.0 ∙ one.1

-- A table as a field takes what a long string takes.
pub table_used : (bytes : List ℕ) (n : ℕ) → Uses (judge_long_string bytes) n
    → Uses (judge_form table_form bytes) n
unfolding judge_form
table_used bytes n used h =
    let one = same_count (judge_field_table bytes) _ (λ x n r. refl) h in
    let long = table_length (judge_value 63) bytes one.0 in
    used long.0 ∙ long.1 ∙ one.1

-- A reserved field takes what its form takes.
pub reserved_used : (form : meant.Form) (bytes : List ℕ) (n : ℕ) → Uses (judge_form form bytes) n
    → Uses (judge_dropped form bytes) n
unfolding judge_dropped
reserved_used form bytes n used h = let one = same_count (judge_form form bytes) _ (λ x n r. refl) h in used one.0 ∙ one.1

-- ---- flags

same_flags : (count k a b : ℕ) → ((i : ℕ) → i < k + count → bit_at a i ≡ bit_at b i) → flags_from count k a ≡ flags_from count k b
same_flags zero k a b h = refl
same_flags (suc count) k a b h =
    ap₂ (λ f fs. f ∷ fs) (ap (λ n. eqb n 1) (h k (omega arith))) (same_flags count (k + 1) a b (λ i less. h i (omega (arith, less))))

-- the flags of a byte are those of its lowest bits, which are all bits of their byte
pub lowest_flags : (count byte : ℕ) → byte % 2 ^ count ≡ flags_byte (flags_from count 0 byte)
lowest_flags count byte =
    let low = byte % 2 ^ count in
    let parts : (byte / 2 ^ count) * 2 ^ count + low ≡ byte = div-add-mod' byte (2 ^ count) in
    let same : flags_from count 0 low ≡ flags_from count 0 byte =
    same_flags count 0 low byte (λ i less. sym (bit_at_cat_low (byte / 2 ^ count) count low i (omega (arith, less))) ∙ ap (λ n. bit_at n i) parts) in
    sym (flags_byte_back count low (omega (arith, pow_pos count))) ∙ ap flags_byte same

-- ---- what a field is put as

-- a form whose bytes are copied
abbrev is_copied : meant.Form → Bool
is_copied (flags_form count) = false
is_copied table_form = false
is_copied _ = true

copied_spelled : (form : meant.Form) (bytes : List ℕ) (items : List Item)
    → is_copied form ≡ true → SpellsForm plain form bytes items → bytes ≡ form_bytes form items
unfolding form_bytes
copied_spelled (flags_form count) bytes items is h = absurd cc
copied_spelled table_form bytes items is h = absurd cc
copied_spelled form bytes items is h = h.spelled.bytes_are ∙ ap (form_bytes form) (sym h.made)

other_form : (f : Form) → (f ≡ forms.Table → ⊥) → ((n : ℕ) → f ≡ forms.Flags n → ⊥) → is_copied (form_of f) ≡ true
other_form (forms.Flags n) a b = absurd (b n refl)
other_form forms.Table a b = absurd (a refl)
other_form _ a b = refl

-- A decoded field that is neither a table nor flags has the bytes that it took as its canonical bytes.
pub copied_form : (f : Form) (bytes : List ℕ) (n : ℕ) → (f ≡ forms.Table → ⊥) → ((n : ℕ) → f ≡ forms.Flags n → ⊥) → IsBytes bytes
    → IsRead (judge_form (form_of f) bytes) → Uses (judge_form (form_of f) bytes) n
    → IsCopied (form_bytes (form_of f)) bytes n (judge_form (form_of f) bytes)
copied_form f bytes n a b fits read used =
    let form = form_of f in
    let one = took_of (judge_form form bytes) read in
    let spelled = (forms_lawful form).exact.spelled bytes one.0 one.1 fits one.2 in
    let count : n ≡ one.1 = used read ∙ ap used_by one.2 in
    record {
      within = omega (arith, count, spelled.1);
      bytes_are =
          ap (λ k. take k bytes) count ∙ copied_spelled form (take one.1 bytes) one.0 (other_form f a b) spelled.0
          ∙ sym (ap (canonical_of (form_bytes form)) one.2);
    }

-- ---- the other fields

-- this is put for what is encoded so
abbrev PutAs : meant.Form → List ℕ → List ℕ → Type 0
PutAs form bytes put = canonical_of (form_bytes form) (judge_form form bytes) ≡ put

number_first : (b : ℕ) (bytes : List ℕ) → judge_number bytes1 (b ∷ bytes) ≡ took b 1
number_first b bytes = let long : 1 ≤ length (b ∷ bytes) = omega arith in rw (le-ltb (length (b ∷ bytes)) 1 long) refl

-- Decoded flags are in a byte, and their canonical byte is that byte without the bits above them.
pub flags_slot : (f : Form) (count : ℕ) (bytes : List ℕ) → f ≡ forms.Flags count → IsRead (judge_form (form_of f) bytes)
    → (0 < length bytes) × PutAs (form_of f) bytes (flags_byte (flags_from count 0 (get_or bytes 0 0)) ∷ [])
unfolding form_bytes judge_form judge_flags
flags_slot f count [] is h = absurd (rw is at h)
flags_slot f count (b ∷ bytes) is h = rw is (
  omega arith,
  ap (λ j. canonical_of (form_bytes (flags_form count)) ((j >>= λ byte. took (flags_from count 0 byte.0) byte.1) >>= λ x. took (map flag_item x.0) x.1))
      (number_first b bytes) ∙ ap (λ fs. flags_byte fs ∷ []) (flags_of-map (flags_from count 0 b)),
)

-- A decoded field of the form of a table is a decoded table, and has its canonical bytes.
pub table_slot : (f : Form) (bytes : List ℕ) → f ≡ forms.Table → IsRead (judge_form (form_of f) bytes)
    → IsRead (judge_field_table bytes) × PutAs (form_of f) bytes (canonical_of table_bytes (judge_field_table bytes))
unfolding judge_form form_bytes
table_slot f bytes is h =
    let one = bind_read (judge_field_table bytes) _ (rw is at h) in
    rw is (is_read (judge_field_table bytes) one.0 one.1 one.2, ap (canonical_of (form_bytes table_form)) one.4 ∙ sym (ap (canonical_of table_bytes) one.2))

-- A reserved field with a constant has the bytes of the constant as its canonical bytes.
pub constant_slot : (slot : Slot) (form : Form) (constant : Bor (List ℕ)) (bytes : List ℕ) → slot ≡ slots.Reserved form constant → has_constant slot ≡ true
    → IsRead (judge_slot (slot_of slot) bytes) → canonical_of (slot_bytes (slot_of slot)) (judge_slot (slot_of slot) bytes) ≡ constant.now
constant_slot slot form constant bytes is =
    rw is (λ there read.
    let one = took_of (judge_dropped (form_of form) bytes) read in
    ap (canonical_of (slot_bytes (slot_of (slots.Reserved form constant)))) one.2 ∙ constant_put (form_of form) constant.now there)

-- ---- fields one after another

-- the items of the first field are parted from the others by their number
both_bytes : (slot : meant.Slot) (slots : List meant.Slot) (bytes : List ℕ) (xs ys : List Item) (n : ℕ) → IsBytes bytes
    → judge_slot slot bytes ≡ took xs n → slots_bytes (slot ∷ slots) (xs ++ ys) ≡ slot_bytes slot xs ++ slots_bytes slots ys
unfolding slots_bytes judge_dropped
both_bytes (kept_slot form) slots bytes xs ys n fits is =
    let laws = forms_lawful form in
    let spelled = laws.exact.spelled bytes xs n fits is in
    let gives = form_gives form (take n bytes) xs spelled.0 in
    ap₂ (λ a b. form_bytes form a ++ slots_bytes slots b) (take_at xs ys (item_count form) gives.count) (drop_at xs ys (item_count form) gives.count)
both_bytes (reserved_slot form constant) slots bytes xs ys n fits is =
    let one = bind_took (judge_form form bytes) _ xs n is in
    let none : xs ≡ [] = sym (value_took [] xs _ n one.3) in
    ap (λ items. form_bytes form constant ++ slots_bytes slots (items ++ ys)) none

-- Fields are put one after another.
pub slots_joined : IsJoined judge_slot judge_slots slot_bytes slots_bytes (λ xs ys. xs ++ ys)
unfolding judge_slots slots_bytes
slots_joined = record {
  step = λ slot slots bytes. refl;
  bytes_are = λ slot slots bytes xs n ys fits is. both_bytes slot slots bytes xs ys n fits is;
  none = λ bytes. refl;
}

-- the first k fields were put, up to a place, and the others are left
abbrev pub SlotsPut : List meant.Slot → List ℕ → List ℕ → ℕ → List ℕ → List ℕ → ℕ → ℕ → Type 0
SlotsPut = PutSoFar judge_slot judge_slots slot_bytes slots_bytes
