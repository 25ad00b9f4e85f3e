-- A line is at most four times as long as the bytes that encode its frame strictly, and 400 bytes.
use Rattle.amqp_lines.proofs
use proofs.Names.{◌≡◌, ◌≤◌, ◌<◌, ℕ, zero, suc, ◌+◌, ◌*◌, ◌/◌, ◌%◌, ◌^◌, Bool, true, false, cond, List, [], ◌∷◌, length, Option, Some, None, refl, ap, subst}
use proofs.Names.{◌∙◌, inl, inr, arith, cases_eq, eq-eqb, ne_eqb, unwrap_or, ◌==◌, digit_glyph, digits_onto, digits, decimal, AllByRecursion, list_all, lookup}
use proofs.Names.{strict, bytes2, Entry, SpellsTable, SpellsValue, Item, Form, number_form, flags_form, short_string_form, long_string_form, table_form, Slot}
use proofs.Names.{kept_slot, reserved_slot, SpellsForm, SpellsSlots, SpellsSlot, slots_at, Method, SpellsPayload, Property, properties, later_properties}
use proofs.Names.{gives_one, give_one, SpellsOptional, SpellsSet, flag_at, ContentHeader, SpellsContentHeader, flags_from_length, pairs-entries_of}
use proofs.Names.{flags_of-map, both_true, options_are, one_each, Frame, Proto, Meth, Head, Body, Beat, BadBeat, Spells, IsFramed, table_text, form_text}
use proofs.Names.{slots_text, property_names, property_name, option_text, set_text, spaced, method_words, header_words, words, line, slot_text, lengths}
use proofs.Names.{numbers}
use Rattle.std.specs.Prelude.{nat_le, option_and_then}
use Rattle.amqp_types.specs.Rows.{classes, rows_of}
use Rattle.amqp_lines.specs.Laws.{LinesAreBounded}
use proofs.Lengths.{number_long, number_size, quoted_long, hex_long, signs_long, long_inner, value_long, table_long}
use proofs.Newlines.{each_name}
use proofs.RenderedSlots.{one_text, form_count, first_text}

-- ---- any number

onto_long : (k n : ℕ) (acc : List ℕ) → length (digits_onto k 10 false n acc) ≤ k + length acc
onto_long zero n acc = omega arith
onto_long (suc k) n acc = elim (cases_eq (n / 10) 0) [
  | inl none ↦ rw (eq-eqb (n / 10) 0 none) (omega arith)
  | inr some ↦ rw (ne_eqb (n / 10) 0 some) (let more = onto_long k (n / 10) (digit_glyph false (n % 10) ∷ acc) in omega (arith, more))
]

any_decimal : (n : ℕ) → length (decimal n) ≤ 64
unfolding digits
any_decimal n = omega (arith, onto_long 64 n [])

any_spaced : (n : ℕ) → length (spaced n) ≤ 65
unfolding spaced
any_spaced n = omega (arith, any_decimal n)

channel_long : (n : ℕ) → n < 2 ^ 16 → length (spaced n) ≤ 8
unfolding spaced
channel_long n fits = omega (arith, number_long bytes2 n fits)

-- ---- fields

-- how much longer the text of a form may be than four times its bytes
abbrev form_room : Form → ℕ
form_room (flags_form count) = count
form_room form = 0

table_text_long : (bytes : List ℕ) (es : List Entry) → SpellsTable strict (SpellsValue strict 63) bytes es → length (table_text es) + 1 ≤ 4 * length bytes
unfolding table_text
table_text_long bytes es h =
    table_long 0 _ (value_long 63) bytes _ (rw (pairs-entries_of es) h)

form_long : (form : Form) (bytes : List ℕ) (items : List Item) → SpellsForm strict form bytes items
    → length (form_text form items) + 1 ≤ 4 * length bytes + form_room form
unfolding form_text
form_long (number_form width) bytes items h =
    rw h.made (omega (arith, number_long width h.thing h.spelled.fits, ap length h.spelled.bytes_are, number_size width h.thing))
form_long (flags_form count) bytes items h =
    rw (h.made, flags_of-map) (omega (
      arith,
      signs_long h.thing,
      ap length h.spelled.flags_are,
      flags_from_length count 0 h.spelled.byte,
      ap length h.spelled.bytes_are,
    ))
form_long short_string_form bytes items h = rw h.made (omega (arith, quoted_long h.thing, ap length h.spelled.bytes_are))
form_long long_string_form bytes items h = rw h.made (omega (arith, quoted_long h.thing, long_inner h.spelled))
form_long table_form bytes items h = rw h.made (omega (arith, table_text_long bytes h.thing h.spelled))

abbrev slot_room : Slot → ℕ
slot_room (kept_slot form) = form_room form
slot_room (reserved_slot form constant) = 0

abbrev slots_room : List Slot → ℕ
slots_room [] = 0
slots_room (slot ∷ slots) = slot_room slot + slots_room slots

slot_long : (slot : Slot) (bytes : List ℕ) (items : List Item) → SpellsSlot strict slot bytes items
    → length (slot_text slot items) ≤ 4 * length bytes + slot_room slot
slot_long (kept_slot form) bytes items h = omega (arith, form_long form bytes items h)
slot_long (reserved_slot form constant) bytes items h = omega arith

slots_long : (slots : List Slot) (bytes : List ℕ) (items : List Item) → SpellsSlots strict slots bytes items
    → length (slots_text slots items) ≤ 4 * length bytes + slots_room slots
unfolding slots_text
slots_long [] bytes items h = omega arith
slots_long (slot ∷ slots) bytes items h =
    omega (
      lengths,
      ap (λ xs. length (slots_text (slot ∷ slots) xs)) h.joined,
      ap length (first_text slot slots h.front h.one h.two h.first_is),
      slot_long slot h.front h.one h.first_is,
      slots_long slots h.behind h.two h.second_is,
      ap length h.bytes_are,
    )

-- what each entry of a table passes, what is looked up passes
module _ {X : Type 0} (test : X → Bool) (key : ℕ) (x : X) where
  found_by : (b : Bool) (here : X) (others : Option X) → test here ≡ true
      → (others ≡ Some x → test x ≡ true) → cond b (Some here) others ≡ Some x → test x ≡ true
  found_by true here others h more e = let is : here ≡ x = cc in subst (λ y. test y ≡ true) is h
  found_by false here others h more e = more e

  found_passes : (table : List (ℕ × X)) → list_all (λ e. test e.1) table ≡ true → lookup (λ k. key == k) table ≡ Some x → test x ≡ true
  found_passes [] all e = absurd cc
  found_passes (e ∷ es) all h =
      let both = both_true (test e.1) (list_all (λ f. test f.1) es) all in
      found_by (key == e.0) e.1 (lookup (λ k. key == k) es) both.0 (found_passes es both.1) h

found_both : {A B : Type 0} (f : A → Option B) (o : Option A) {y : B} → option_and_then f o ≡ Some y → (x : A) × (o ≡ Some x) × (f x ≡ Some y)
found_both f None h = absurd cc
found_both f (Some x) h = (x, refl, h)

abbrev has_few : List Slot → Bool
has_few slots = nat_le (slots_room slots) 16

room_at : (class id : ℕ) (slots : List Slot) → slots_at class id ≡ Some slots → slots_room slots ≤ 16
unfolding rows_of slots_at
room_at class id slots h =
    let both = found_both (λ rows. lookup (λ key. id == key) rows) (rows_of class) h in
    let rows = found_passes (λ rs. list_all (λ row. has_few row.1) rs) class both.0 classes refl both.1 in
    let few : has_few slots ≡ true = found_passes has_few id slots both.0 rows both.2 in grind numbers

-- ---- properties

names_within : (names : List (ℕ × List ℕ)) → list_all (λ name. nat_le (length name.1) 16) names ≡ true
    → AllByRecursion (λ name. length name.1 ≤ 16) names
names_within [] h = tt
names_within (name ∷ names) h =
    let both = both_true (nat_le (length name.1) 16) _ h in
    (grind (numbers, both.0), names_within names both.1)

name_long : (bit : ℕ) → length (property_name bit) ≤ 16
unfolding property_name
name_long bit = each_name (λ name. length name ≤ 16) (omega arith) property_names bit (names_within property_names refl)

option_long : (p : Property) (present : Bool) (bytes : List ℕ) (option : Option Item) → gives_one p.form ≡ true
    → SpellsOptional strict present p.form bytes option → length (option_text p option) ≤ 4 * length bytes + (17 + form_room p.form)
unfolding option_text
option_long p true bytes option one h =
    let text = ap (option_text p) h.made ∙ one_text h.thing p refl one (form_count p.form bytes h.thing h.spelled) in
    omega (lengths, ap length text, name_long p.bit, form_long p.form bytes h.thing h.spelled)
option_long p false bytes option one h = omega (arith, ap (λ o. length (option_text p o)) h.1)

abbrev set_room : List Property → ℕ
set_room [] = 0
set_room (p ∷ ps) = (17 + form_room p.form) + set_room ps

set_long : (mask : ℕ) (ps : List Property) (bytes : List ℕ) (options : List (Option Item)) → give_one ps ≡ true
    → SpellsSet strict mask ps bytes options → length (set_text ps options) ≤ 4 * length bytes + set_room ps
unfolding set_text
set_long mask [] bytes options one h = omega arith
set_long mask (p ∷ ps) bytes options one h =
    let ones = both_true _ _ one in
    omega (
      lengths,
      ap (λ os. length (set_text (p ∷ ps) os)) h.joined,
      option_long p (flag_at mask p.bit) h.front h.one ones.0 h.first_is,
      set_long mask ps h.behind h.two ones.1 h.second_is,
      ap length h.bytes_are,
    )

room_of_all : set_room properties ≡ 238
unfolding properties later_properties
room_of_all = refl

-- ---- lines

inside : {bytes payload : List ℕ} {type channel : ℕ} → IsFramed bytes type channel payload → length payload ≤ length bytes
inside h = omega (lengths, ap length h.bytes_are)

method_long : {bytes : List ℕ} (m : Method) → SpellsPayload strict bytes m → length (method_words m) ≤ 4 * length bytes + 150
unfolding method_words
method_long m h =
    omega (
      lengths,
      any_spaced m.class,
      any_decimal m.id,
      ap (λ o. length (slots_text (unwrap_or o []) m.items)) h.known,
      slots_long h.slots h.slot_bytes m.items h.slots_are,
      room_at m.class m.id h.slots h.known,
      ap length h.bytes_are,
    )

header_long : (bytes : List ℕ) (header : ContentHeader) → SpellsContentHeader strict bytes header → length (header_words header) ≤ 4 * length bytes + 368
unfolding header_words
header_long bytes header h =
    let same : header.options ≡ h.two = cc (h.joined, options_are h.one h.two) in
    let set = h.second_is in
    omega (
      lengths,
      any_spaced header.class_id,
      any_spaced header.body_size,
      ap (λ os. length (set_text properties os)) same,
      set_long set.mask properties set.behind h.two one_each set.set,
      room_of_all,
      ap length h.bytes_are,
      ap length set.bytes_are,
    )

words_long : (bytes : List ℕ) (frame : Frame) → Spells strict bytes frame → length (words frame) + 1 ≤ 4 * length bytes + 400
unfolding words
words_long bytes (Proto major minor revision) h = omega (lengths, any_decimal)
words_long bytes (Meth channel m) h =
    omega (
      lengths,
      channel_long channel h.is_framed.channel_fits,
      method_long m h.spelled,
      inside h.is_framed,
    )
words_long bytes (Head channel header) h =
    omega (
      lengths,
      channel_long channel h.is_framed.channel_fits,
      header_long h.payload header h.spelled,
      inside h.is_framed,
    )
words_long bytes (Body channel content) h =
    omega (lengths, channel_long channel h.channel_fits, hex_long content, inside h)
words_long bytes Beat h = omega arith
words_long bytes (BadBeat channel) h = grind (numbers, channel_long channel h.1.is_framed.channel_fits)

-- The line of a frame is at most four times as long as its strict encoding, and 400 bytes.
pub lines_bounded : LinesAreBounded
unfolding line
lines_bounded bytes frame h = omega (lengths, words_long bytes frame h)
