-- Which fields, and which payloads of methods, are tidy.
use Rattle.std.proofs.Common.{◌≡◌, ℕ, ◌<◌, ◌^◌, ◌==◌, true, List, [], ◌∷◌, ◌++◌, length, take, drop, refl, sym, ap, ap₂, subst, ◌∙◌, append_assoc, arith}
use Rattle.std.specs.Int.{w16, from_be_bytes}
use Rattle.std.proofs.lemmas.Bool.{and_from, and_parts, eq-eqb, eqb-true, lt-ltb, ltb-true}
use Rattle.std.proofs.lemmas.List.{length-append, take_at, drop_at}
use Rattle.std.proofs.lemmas.Nat.{from_be_bytes-to_be_bytes_2}
use Rattle.amqp_types.specs.Levels.{Level, plain, tidy, strict}
use Rattle.amqp_types.specs.Judging.{took}
use Rattle.amqp_types.specs.Numbers.{bytes2, SpellsNumber}
use Rattle.amqp_types.specs.Slots.{Item, Form, number_form, flags_form, short_string_form, long_string_form, table_form, Slot, kept_slot, reserved_slot}
use Rattle.amqp_types.specs.SlotJudging.{judge_form, judge_dropped, judge_slots}
use Rattle.amqp_types.specs.SlotBytes.{form_bytes}
use Rattle.amqp_types.specs.SlotSpelling.{SpellsForm, SpellsReserved, SpellsSlots}
use Rattle.amqp_types.specs.SlotLaws.{is_least, are_least}
use Rattle.amqp_types.specs.Rows.{slots_at}
use Rattle.amqp_types.specs.Methods.{Method, judge_payload}
use Rattle.amqp_types.specs.MethodSpelling.{SpellsPayload}
use Rattle.amqp_types.specs.Tidiness.{begins_with, is_tidy_form, are_tidy_slots, are_tidy_known, short_at, is_tidy_payload}
use Rattle.amqp_types.specs.Tidiness.{TidySlotsAreDecided, TidyPayloadsAreDecided}
use Rattle.amqp_types.proofs.Exact.{took_count}
use Rattle.amqp_types.proofs.Numbers.{number_bytes-length}
use Rattle.amqp_types.proofs.Deciding.{IsTest, decides, both_test}
use Rattle.amqp_laws.proofs.PlainValues.{field_table_plain_is_tidy}
use Rattle.amqp_laws.proofs.SlotForms.{forms_lawful}
use Rattle.amqp_laws.proofs.SlotLaws.{constant_strict, reserved_lawful, slots_lawful}
use Rattle.amqp_laws.proofs.MethodLaws.{in_table, three_behind, at_level, payloads_lawful}

-- ---- forms

flags_tidied : (count : ℕ) (bytes rest : List ℕ) (items : List Item) → SpellsForm plain (flags_form count) bytes items
    → is_tidy_form (flags_form count) (bytes ++ rest) ≡ true → SpellsForm tidy (flags_form count) bytes items
flags_tidied count bytes rest items h right =
    let flags = h.spelled in
    let P : List ℕ → Type 0 = λ bs. is_tidy_form (flags_form count) (bs ++ rest) ≡ true in
    let below : flags.byte < 2 ^ count = ltb-true flags.byte (2 ^ count) (subst P flags.bytes_are right) in
    record {
      thing = h.thing;
      spelled = record { byte = flags.byte; fits = flags.fits; bytes_are = flags.bytes_are; flags_are = flags.flags_are; unused = below };
      made = h.made;
    }

flags_tested : (count : ℕ) (bytes rest : List ℕ) (items : List Item)
    → SpellsForm tidy (flags_form count) bytes items → is_tidy_form (flags_form count) (bytes ++ rest) ≡ true
flags_tested count bytes rest items h =
    let flags = h.spelled in
    ap (λ bs. is_tidy_form (flags_form count) (bs ++ rest)) flags.bytes_are ∙ lt-ltb flags.byte (2 ^ count) flags.unused

forms_test : (form : Form) → IsTest (λ level. SpellsForm level form) (is_tidy_form form)
forms_test (number_form width) = record { tidied = λ bytes rest items h right. h; tested = λ bytes rest items h. refl }
forms_test (flags_form count) = record { tidied = flags_tidied count; tested = flags_tested count }
forms_test short_string_form = record { tidied = λ bytes rest items h right. h; tested = λ bytes rest items h. refl }
forms_test long_string_form = record { tidied = λ bytes rest items h right. h; tested = λ bytes rest items h. refl }
forms_test table_form = record {
  tidied = λ bytes rest items h right. record { thing = h.thing; spelled = field_table_plain_is_tidy bytes h.thing h.spelled; made = h.made };
  tested = λ bytes rest items h. refl;
}

-- ---- reserved fields

begun : (wanted bytes : List ℕ) → begins_with wanted bytes ≡ true → (rest : List ℕ) × (bytes ≡ wanted ++ rest)
begun [] bytes h = (bytes, refl)
begun (want ∷ wanted) [] h = absurd cc
begun (want ∷ wanted) (byte ∷ bytes) h =
    let both = and_parts (byte == want) (begins_with wanted bytes) h in
    let more = begun wanted bytes both.1 in
    (more.0, ap₂ (λ (b : ℕ) (bs : List ℕ). b ∷ bs) (eqb-true byte want both.0) more.1)

begins : (wanted rest : List ℕ) → begins_with wanted (wanted ++ rest) ≡ true
begins [] rest = refl
begins (want ∷ wanted) rest = and_from (want == want) (begins_with wanted (wanted ++ rest)) (eq-eqb want want refl) (begins wanted rest)

-- a form that has a least constant has no tidy encoding but its strict ones
least_strict : (form : Form) (constant : List Item) (bytes : List ℕ) (items : List Item)
    → is_least form constant ≡ true → SpellsForm tidy form bytes items → SpellsForm strict form bytes items
least_strict (number_form width) constant bytes items least h = h
least_strict (flags_form count) constant bytes items least h =
    let flags = h.spelled in
    record {
      thing = h.thing;
      spelled = record { byte = flags.byte; fits = flags.fits; bytes_are = flags.bytes_are; flags_are = flags.flags_are; unused = flags.unused };
      made = h.made;
    }
least_strict short_string_form constant bytes items least h = h
least_strict long_string_form constant bytes items least h = h
least_strict table_form constant bytes items least h = absurd cc

module _ (form : Form) (constant : List Item) (least : is_least form constant ≡ true) where
  constant_tidy : SpellsForm tidy form (form_bytes form constant) constant
  constant_tidy = (forms_lawful form).strict_is_tidy (form_bytes form constant) constant (constant_strict form constant least)

  constant_taken : (rest : List ℕ) → judge_form form (form_bytes form constant ++ rest) ≡ took constant (length (form_bytes form constant))
  constant_taken rest =
      (forms_lawful form).exact.taken (form_bytes form constant) rest constant
      ((forms_lawful form).tidy_is_plain (form_bytes form constant) constant constant_tidy)

  reserved_tidied : (bytes rest : List ℕ) (items : List Item) → SpellsReserved plain form constant bytes items
      → begins_with (form_bytes form constant) (bytes ++ rest) ≡ true → SpellsReserved tidy form constant bytes items
  reserved_tidied bytes rest items h right =
      let front = form_bytes form constant in
      let found = begun front (bytes ++ rest) right in
      let dropped = (forms_lawful form).exact.taken bytes rest h.dropped h.spelled in
      let wanted : judge_form form (bytes ++ rest) ≡ took constant (length front) = ap (judge_form form) found.1 ∙ constant_taken found.0 in
      let count : length bytes ≡ length front = took_count (judge_form form (bytes ++ rest)) h.dropped constant (length bytes) (length front) dropped wanted in
      let same : bytes ≡ front = sym (take_at bytes rest (length front) count) ∙ ap (take (length front)) found.1 ∙ take_at front found.0 (length front) refl in
      let P : List ℕ → Type 0 = λ bs. SpellsForm tidy form bs constant in
      record { dropped = constant; spelled = subst P (sym same) constant_tidy; none = h.none; unused = refl }

  reserved_tested : (bytes rest : List ℕ) (items : List Item) → SpellsReserved tidy form constant bytes items
      → begins_with (form_bytes form constant) (bytes ++ rest) ≡ true
  reserved_tested bytes rest items h =
      let strictly = least_strict form constant bytes h.dropped least h.spelled in
      let same : bytes ≡ form_bytes form constant = (forms_lawful form).strict_is_canonical bytes h.dropped strictly ∙ ap (form_bytes form) h.unused in
      ap (λ bs. begins_with (form_bytes form constant) (bs ++ rest)) same ∙ begins (form_bytes form constant) rest

  reserved_test : IsTest (λ level. SpellsReserved level form constant) (begins_with (form_bytes form constant))
  reserved_test = record { tidied = reserved_tidied; tested = reserved_tested }

-- ---- lists of fields

-- The test of fields whose constants are least is a test of tidiness.
pub slots_test : (slots : List Slot) → are_least slots ≡ true → IsTest (λ level. SpellsSlots level slots) (are_tidy_slots slots)
unfolding are_tidy_slots
slots_test [] least = record { tidied = λ bytes rest items h right. h; tested = λ bytes rest items h. refl }
slots_test (kept_slot form ∷ slots) least =
    let law = forms_lawful form in
    both_test (judge_form form) (λ xs ys. xs ++ ys) (λ level. SpellsForm level form) (λ level. SpellsSlots level slots)
    (is_tidy_form form) (are_tidy_slots slots) law.exact law.tidy_is_plain (forms_test form) (slots_test slots least)
slots_test (reserved_slot form constant ∷ slots) least =
    let b = and_parts (is_least form constant) (are_least slots) least in
    let law = reserved_lawful form constant b.0 in
    both_test (judge_dropped form) (λ xs ys. xs ++ ys) (λ level. SpellsReserved level form constant) (λ level. SpellsSlots level slots)
    (begins_with (form_bytes form constant)) (are_tidy_slots slots) law.exact law.tidy_is_plain (reserved_test form constant b.0) (slots_test slots b.1)

-- The test of fields decides whether their encoding is tidy, where the constants of reserved ones are least.
pub slots_decided : TidySlotsAreDecided
slots_decided slots least =
    decides (judge_slots slots) (λ level. SpellsSlots level slots) (are_tidy_slots slots) (slots_lawful slots least).exact (slots_test slots least)

-- ---- payloads of methods

short_length : (bytes : List ℕ) (n : ℕ) → SpellsNumber bytes2 bytes n → length bytes ≡ 2
short_length bytes n h = ap length h.bytes_are ∙ number_bytes-length bytes2 n

-- A number of two bytes is read from the front of its encoding, whatever follows.
pub short_at_front : (bytes rest : List ℕ) (n : ℕ) → SpellsNumber bytes2 bytes n → from_be_bytes w16 (take 2 (bytes ++ rest)) ≡ n
short_at_front bytes rest n h = ap (from_be_bytes w16) (take_at bytes rest 2 (short_length bytes n h) ∙ h.bytes_are) ∙ from_be_bytes-to_be_bytes_2 n h.fits

-- after both ids the fields of the method are tested
payload_slots : (level : Level) (bytes rest : List ℕ) (m : Method) (h : SpellsPayload level bytes m)
    → is_tidy_payload (bytes ++ rest) ≡ are_tidy_slots h.slots (h.slot_bytes ++ rest)
unfolding is_tidy_payload
payload_slots level bytes rest m h =
    let a = h.class_bytes in
    let b = h.id_bytes in
    let tail = h.slot_bytes ++ rest in
    let all : bytes ++ rest ≡ a ++ (b ++ tail) = ap (λ bs. bs ++ rest) h.bytes_are ∙ three_behind a b h.slot_bytes rest in
    let class_length = short_length a m.class h.class_is in
    let id_length = short_length b m.id h.id_is in
    let class : short_at 0 (a ++ (b ++ tail)) ≡ m.class = short_at_front a (b ++ tail) m.class h.class_is in
    let id : short_at 2 (a ++ (b ++ tail)) ≡ m.id =
    ap (λ bs. from_be_bytes w16 (take 2 bs)) (drop_at a (b ++ tail) 2 class_length) ∙ short_at_front b tail m.id h.id_is in
    let both : length (a ++ b) ≡ 4 = omega (arith, length-append a b, class_length, id_length) in
    let behind : drop 4 (a ++ (b ++ tail)) ≡ tail = ap (drop 4) (sym (append_assoc a b tail)) ∙ drop_at (a ++ b) tail 4 both in
    ap is_tidy_payload all ∙ ap₂ (λ c i. are_tidy_known (slots_at c i) (drop 4 (a ++ (b ++ tail)))) class id ∙ ap₂ are_tidy_known h.known behind

payload_tidied : (bytes rest : List ℕ) (m : Method) → SpellsPayload plain bytes m → is_tidy_payload (bytes ++ rest) ≡ true → SpellsPayload tidy bytes m
payload_tidied bytes rest m h right =
    let test = slots_test h.slots (in_table m.class m.id h.slots h.known).least in
    at_level plain tidy bytes m h (test.tidied h.slot_bytes rest m.items h.slots_are (sym (payload_slots plain bytes rest m h) ∙ right))

payload_tested : (bytes rest : List ℕ) (m : Method) → SpellsPayload tidy bytes m → is_tidy_payload (bytes ++ rest) ≡ true
payload_tested bytes rest m h =
    let test = slots_test h.slots (in_table m.class m.id h.slots h.known).least in
    payload_slots tidy bytes rest m h ∙ test.tested h.slot_bytes rest m.items h.slots_are

-- The test of a payload decides whether the encoding of a method is tidy.
pub payloads_decided : TidyPayloadsAreDecided
payloads_decided = decides judge_payload SpellsPayload is_tidy_payload payloads_lawful.exact (record { tidied = payload_tidied; tested = payload_tested })
