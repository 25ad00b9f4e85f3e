-- Decoding what stands inside a payload finds no faults but those of the inside.
use Rattle.std.proofs.Common.{◌≡◌, ℕ, zero, suc, ◌+◌, ◌-◌, nat_lt, Bool, true, false, cond, List, [], ◌∷◌, ◌++◌, length, take, drop, Option, Some}
use Rattle.std.proofs.Common.{None, Result, Ok, Err, ap, subst}
use Rattle.std.specs.Str.{is_utf8}
use Rattle.amqp_types.specs.Judging.{Fault, Judged, Judge, took, past, fault, unknown_class, unknown_method, short_payload}
use Rattle.amqp_types.specs.Judging.{not_utf8, unknown_tag, too_deep, ◌>>=◌}
use Rattle.amqp_types.specs.PayloadFaults.{IsInside, FailsInside, PayloadsFailInside}
use Rattle.amqp_types.specs.Sequences.{judge_map, judge_both}
use Rattle.amqp_types.specs.Numbers.{NumberWidth, bytes1, bytes2, bytes4, judge_number}
use Rattle.amqp_types.specs.Signed.{judge_signed}
use Rattle.amqp_types.specs.Booleans.{judge_boolean}
use Rattle.amqp_types.specs.Flags.{judge_flags}
use Rattle.amqp_types.specs.Strings.{judge_short_string, judge_long_string}
use Rattle.amqp_types.specs.Values.{FieldValue, SignedKind, UnsignedKind, BytesKind, short_short_int, short_int, long_int, long_long_int, short_short_uint}
use Rattle.amqp_types.specs.Values.{short_uint, long_uint, float, double, timestamp, long_string, byte_array, boolean_value, signed_value, unsigned_value}
use Rattle.amqp_types.specs.Values.{decimal_value, bytes_value, array_value, table_value, void_value, values_of, entries_of}
use Rattle.amqp_types.specs.ValueBytes.{signed_width, unsigned_width}
use Rattle.amqp_types.specs.Tags.{tag_at}
use Rattle.amqp_types.specs.Settling.{settled}
use Rattle.amqp_types.specs.ValueJudging.{filled, next_item, read_map, took_all, judge_entry, judge_array, judge_table, judge_decimal, judge_signed_kind}
use Rattle.amqp_types.specs.ValueJudging.{judge_unsigned_kind, judge_bytes_kind, judge_behind, behind_tag, judge_tagged, nested, judge_value, judge_field_table}
use Rattle.amqp_types.specs.Slots.{Form, number_form, flags_form, short_string_form, long_string_form, table_form, Slot, kept_slot, reserved_slot}
use Rattle.amqp_types.specs.SlotJudging.{judge_form, judge_dropped, judge_slot, judge_slots}
use Rattle.amqp_types.specs.Rows.{rows_of, slots_at}
use Rattle.amqp_types.specs.Methods.{method, known, judge_method, judge_in_class, judge_payload}
use Rattle.amqp_types.specs.declared.tag.FieldTag.{FieldTag}
use Rattle.amqp_types.specs.declared.tag.FieldTag.TheVariants as tag

-- ---- the steps of a decoding function

-- what was decoded shows no other fault
abbrev pub Inside : {A : Type 0} → Judged A → Type 0
Inside j = (bad : Fault) → j ≡ fault bad → IsInside bad

-- What was decoded shows no fault.
pub took_inside : {A : Type 0} (x : A) (n : ℕ) → Inside (took x n)
took_inside x n bad h = cc

past_inside : {A : Type 0} → Inside {A = A} past
past_inside bad h = cc

fault_inside : {A : Type 0} (one : Fault) → IsInside one → Inside {A = A} (fault one)
fault_inside one ok bad h = let same : one ≡ bad = cc in subst IsInside same ok

test_inside : {A : Type 0} (test : Bool) (j k : Judged A) → Inside j → Inside k → Inside (cond test j k)
test_inside true j k one other = one
test_inside false j k one other = other

-- Decoding in two steps finds only faults of the inside where each of the steps does.
pub bind_inside : {A B : Type 0} (j : Judged A) (f : A × ℕ → Judged B) → Inside j → ((x : A × ℕ) → Inside (f x)) → Inside (j >>= f)
bind_inside (took x n) f one more bad h = more (x, n) bad h
bind_inside past f one more bad h = cc
bind_inside (fault first) f one more bad h = let same : first ≡ bad = cc in one bad (ap fault same)

-- Decoding something and making a value of it finds only faults of the inside where the decoding does.
pub map_inside : {A B : Type 0} (make : A → B) (judge : Judge A) → FailsInside judge → FailsInside (judge_map make judge)
map_inside make judge one bytes = bind_inside (judge bytes) _ (one bytes) (λ x. took_inside (make x.0) x.1)

-- Decoding two things one after the other finds only faults of the inside where both decodings do.
pub both_inside : {A B C : Type 0} (first : Judge A) (second : Judge B) (join : A → B → C)
    → FailsInside first → FailsInside second → FailsInside (judge_both first second join)
both_inside first second join one two bytes =
    bind_inside (first bytes) _ (one bytes) (λ x. bind_inside (second (drop x.1 bytes)) _ (two (drop x.1 bytes)) (λ y. took_inside (join x.0 y.0) (x.1 + y.1)))

-- ---- numbers, truth values, flags and strings

-- Decoding a number finds only faults of the inside of a payload.
pub number_inside : (width : NumberWidth) → FailsInside (judge_number width)
number_inside width bytes = test_inside _ past _ past_inside (took_inside _ _)

signed_inside : (width : NumberWidth) → FailsInside (judge_signed width)
signed_inside width bytes = bind_inside (judge_number width bytes) _ (number_inside width bytes) (λ n. took_inside _ n.1)

boolean_inside : FailsInside judge_boolean
boolean_inside [] = past_inside
boolean_inside (b ∷ bytes) = took_inside _ 1

flags_inside : (count : ℕ) → FailsInside (judge_flags count)
unfolding judge_flags
flags_inside count bytes = bind_inside (judge_number bytes1 bytes) _ (number_inside bytes1 bytes) (λ byte. took_inside _ byte.1)

short_string_inside : FailsInside judge_short_string
unfolding judge_short_string
short_string_inside [] = past_inside
short_string_inside (n ∷ bytes) =
    test_inside (nat_lt (length bytes) n) past _ past_inside (test_inside (is_utf8 (take n bytes)) _ _ (took_inside _ _) (fault_inside not_utf8 tt))

long_string_inside : FailsInside judge_long_string
unfolding judge_long_string
long_string_inside bytes = bind_inside (judge_number bytes4 bytes) _ (number_inside bytes4 bytes) (λ n. test_inside _ past _ past_inside (took_inside _ _))

-- ---- what fills a table or an array

-- what was read shows no other fault
abbrev ReadInside : {A : Type 0} → Result A Fault → Type 0
ReadInside r = (bad : Fault) → r ≡ Err bad → IsInside bad

read_map_inside : {A B : Type 0} (f : A → B) (r : Result A Fault) → ReadInside r → ReadInside (read_map f r)
read_map_inside f (Ok x) one bad h = cc
read_map_inside f (Err first) one bad h = let same : first ≡ bad = cc in one bad (ap Err same)

next_inside : {A : Type 0} (j : Judged A) (others : ℕ → Result (List A) Fault) → Inside j → ((n : ℕ) → ReadInside (others n)) → ReadInside (next_item j others)
next_inside (took x n) others one more bad h = read_map_inside (λ xs. x ∷ xs) (others n) (more n) bad h
next_inside past others one more bad h = let same : short_payload ≡ bad = cc in subst IsInside same tt
next_inside (fault first) others one more bad h = let same : first ≡ bad = cc in one bad (ap fault same)

filled_inside : {A : Type 0} (item : Judge A) → FailsInside item → (k : ℕ) (bytes : List ℕ) → ReadInside (filled item k bytes)
unfolding filled
filled_inside item one k [] bad h = cc
filled_inside item one (suc k) (b ∷ bytes) bad h = filled_inside item one k bytes bad h
filled_inside item one zero (b ∷ bytes) bad h =
    next_inside (item (b ∷ bytes)) (λ n. filled item (n - 1) bytes) (one (b ∷ bytes)) (λ n. filled_inside item one (n - 1) bytes) bad h

whole_inside : {A : Type 0} (n : ℕ) (r : Result A Fault) → ReadInside r → Inside (took_all n r)
whole_inside n (Ok x) one bad h = took_inside x n bad h
whole_inside n (Err first) one bad h = let same : first ≡ bad = cc in one bad (ap Err same)

-- ---- values

module _ (value : Judge FieldValue) (one : FailsInside value) where
  array_inside : FailsInside (judge_array value)
  unfolding judge_array
  array_inside bytes =
      bind_inside (judge_long_string bytes) _ (long_string_inside bytes) (λ content. whole_inside content.1 _ (filled_inside value one 0 content.0))

  entry_inside : FailsInside (judge_entry value)
  unfolding judge_entry
  entry_inside = both_inside judge_short_string value _ short_string_inside one

  table_inside : FailsInside (judge_table value)
  unfolding judge_table
  table_inside bytes =
      bind_inside (judge_long_string bytes) _ (long_string_inside bytes)
      (λ content. whole_inside content.1 _ (read_map_inside settled _ (filled_inside (judge_entry value) entry_inside 0 content.0)))

decimal_inside : FailsInside judge_decimal
unfolding judge_decimal
decimal_inside = both_inside (judge_number bytes1) (judge_number bytes4) _ (number_inside bytes1) (number_inside bytes4)

signed_kind_inside : (kind : SignedKind) → FailsInside (judge_signed_kind kind)
signed_kind_inside kind = map_inside (signed_value kind) (judge_signed (signed_width kind)) (signed_inside (signed_width kind))

unsigned_kind_inside : (kind : UnsignedKind) → FailsInside (judge_unsigned_kind kind)
unsigned_kind_inside kind = map_inside (unsigned_value kind) (judge_number (unsigned_width kind)) (number_inside (unsigned_width kind))

bytes_kind_inside : (kind : BytesKind) → FailsInside (judge_bytes_kind kind)
bytes_kind_inside kind = map_inside (bytes_value kind) judge_long_string long_string_inside

-- where there is room for one level more, decoding it finds no other faults
abbrev NestedInside : Option (Judge FieldValue) → Type 0
NestedInside None = Unit {0}
NestedInside (Some value) = FailsInside value

behind_inside : (nest : Option (Judge FieldValue)) → NestedInside nest → (t : FieldTag) → FailsInside (judge_behind nest t)
unfolding judge_behind
behind_inside nest ok tag.Boolean = map_inside boolean_value judge_boolean boolean_inside
behind_inside nest ok tag.ShortShortInt = signed_kind_inside short_short_int
behind_inside nest ok tag.ShortShortUInt = unsigned_kind_inside short_short_uint
behind_inside nest ok tag.ShortInt = signed_kind_inside short_int
behind_inside nest ok tag.ShortUInt = unsigned_kind_inside short_uint
behind_inside nest ok tag.LongInt = signed_kind_inside long_int
behind_inside nest ok tag.LongUInt = unsigned_kind_inside long_uint
behind_inside nest ok tag.LongLongInt = signed_kind_inside long_long_int
behind_inside nest ok tag.Float = unsigned_kind_inside float
behind_inside nest ok tag.Double = unsigned_kind_inside double
behind_inside nest ok tag.DecimalValue = map_inside (λ d. decimal_value d.0 d.1) judge_decimal decimal_inside
behind_inside nest ok tag.LongString = bytes_kind_inside long_string
behind_inside None ok tag.FieldArray = λ bytes. fault_inside too_deep tt
behind_inside (Some value) ok tag.FieldArray = map_inside (λ vs. array_value (values_of vs)) (judge_array value) (array_inside value ok)
behind_inside nest ok tag.Timestamp = unsigned_kind_inside timestamp
behind_inside None ok tag.FieldTable = λ bytes. fault_inside too_deep tt
behind_inside (Some value) ok tag.FieldTable = map_inside (λ es. table_value (entries_of es)) (judge_table value) (table_inside value ok)
behind_inside nest ok tag.ByteArray = bytes_kind_inside byte_array
behind_inside nest ok tag.Void = λ bytes. took_inside void_value 0

module _ (nest : Option (Judge FieldValue)) (ok : NestedInside nest) where
  behind_tag_inside : (t : Option FieldTag) → FailsInside (behind_tag nest t)
  behind_tag_inside None bytes = fault_inside unknown_tag tt
  behind_tag_inside (Some t) bytes = bind_inside (judge_behind nest t bytes) _ (behind_inside nest ok t bytes) (λ v. took_inside v.0 (1 + v.1))

  tagged_inside : FailsInside (judge_tagged nest)
  unfolding judge_tagged
  tagged_inside [] = past_inside
  tagged_inside (byte ∷ bytes) = behind_tag_inside (tag_at byte) bytes

nested_inside : (room : ℕ) → NestedInside (nested room)
unfolding nested
nested_inside zero = tt
nested_inside (suc room) = tagged_inside (nested room) (nested_inside room)

value_inside : (room : ℕ) → FailsInside (judge_value room)
unfolding judge_value
value_inside room = tagged_inside (nested room) (nested_inside room)

-- ---- fields

-- Decoding a form of a field finds only faults of the inside of a payload.
pub form_inside : (form : Form) → FailsInside (judge_form form)
unfolding judge_form
form_inside (number_form width) = map_inside _ (judge_number width) (number_inside width)
form_inside (flags_form count) = map_inside _ (judge_flags count) (flags_inside count)
form_inside short_string_form = map_inside _ judge_short_string short_string_inside
form_inside long_string_form = map_inside _ judge_long_string long_string_inside
form_inside table_form = map_inside _ judge_field_table (table_inside (judge_value 63) (value_inside 63))

slot_inside : (slot : Slot) → FailsInside (judge_slot slot)
unfolding judge_dropped
slot_inside (kept_slot form) = form_inside form
slot_inside (reserved_slot form constant) = map_inside _ (judge_form form) (form_inside form)

-- Decoding fields finds only faults of the inside of a payload.
pub slots_inside : (slots : List Slot) → FailsInside (judge_slots slots)
unfolding judge_slots
slots_inside [] = λ bytes. took_inside [] 0
slots_inside (slot ∷ slots) = both_inside (judge_slot slot) (judge_slots slots) (λ xs ys. xs ++ ys) (slot_inside slot) (slots_inside slots)

-- ---- methods in payloads

known_inside : {A : Type 0} (unknown : Fault) → IsInside unknown → (o : Option A) → Inside (known unknown o)
known_inside unknown ok None = fault_inside unknown ok
known_inside unknown ok (Some x) = took_inside x 0

method_inside : (class id : ℕ) → FailsInside (judge_method class id)
unfolding judge_method
method_inside class id bytes =
    bind_inside (known unknown_method (slots_at class id)) _ (known_inside unknown_method tt (slots_at class id)) (λ slots.
    bind_inside (judge_slots slots.0 bytes) _ (slots_inside slots.0 bytes) (λ items. took_inside (method class id items.0) items.1))

in_class_inside : (class : ℕ) → FailsInside (judge_in_class class)
unfolding judge_in_class
in_class_inside class bytes =
    bind_inside (known unknown_class (rows_of class)) _ (known_inside unknown_class tt (rows_of class)) (λ rows.
    bind_inside (judge_number bytes2 bytes) _ (number_inside bytes2 bytes) (λ id.
    bind_inside (judge_method class id.0 (drop id.1 bytes)) _ (method_inside class id.0 (drop id.1 bytes)) (λ m. took_inside m.0 (id.1 + m.1))))

-- The payload of a method is refused only for what stands inside it.
pub payloads_inside : PayloadsFailInside
unfolding judge_payload
payloads_inside bytes =
    bind_inside (judge_number bytes2 bytes) _ (number_inside bytes2 bytes) (λ class.
    bind_inside (judge_in_class class.0 (drop class.1 bytes)) _ (in_class_inside class.0 (drop class.1 bytes)) (λ m. took_inside m.0 (class.1 + m.1)))
