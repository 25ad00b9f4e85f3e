-- The text of fields and properties is read back as their canonical bytes.
use Rattle.amqp_lines.proofs
use proofs.Names.{last_bytes, read_lists, read_string, read_number, is_hex, is_digit, read_signs, read_form, read_slot, read_slots, strip, with_option}
use proofs.Names.{read_set, read_properties, Reader, byte_count, bytes2, number_bytes, ◌≡◌, ℕ, ◌+◌, ◌%◌, ◌^◌, ◌<◌, List, [], ◌∷◌, ◌++◌, length, take, drop}
use proofs.Names.{Bool, true, false, cond, Option, Some, None, refl, sym, ap, ap₂, ◌∙◌, append_assoc, arith, ◌==◌, eq-eqb, take_at, strict, IsBytes, flag_at}
use proofs.Names.{flags_from, Item, Form, number_form, flags_form, short_string_form, long_string_form, table_form, Slot, kept_slot, reserved_slot, form_bytes}
use proofs.Names.{SpellsForm, SpellsSlots, SpellsSlot, Property, properties, later_properties, mask_of, set_bytes, properties_bytes, first_item, gives_one}
use proofs.Names.{give_one, SpellsOptional, SpellsSet, SpellsProperties, flags_from_length, flags_of-map, forms_lawful, both_true, one_each, signs, form_text}
use proofs.Names.{slots_text, property_name, option_text, set_text, SpellsMapped, slot_text}
use Rattle.amqp_lines.specs.Reading.{read_flags}
use Rattle.std.specs.Prelude.{◌&&◌, if◌then◌else◌}
use Rattle.amqp_types.specs.PropertyBytes.{worth_of}
use Rattle.amqp_types.proofs.FormLaws.{flags_byte_back}
use Rattle.amqp_laws.proofs.PropertyLaws.{properties_lawful}
use proofs.ReadWords.{Ends, IsReadAs, bytes_behind, bytes_front, number_back, long_string_back, short_string_back, signs_back}
use proofs.ReadBack.{field_table_back}
use proofs.RenderedSlots.{one_text, form_count, first_text}
use Rattle.amqp_laws.proofs.Options.{counted_one}

-- ---- one field

flags_read : (count byte : ℕ) (rest : List ℕ) → byte < 256 → byte < 2 ^ count → read_signs count (signs (flags_from count 0 byte) ++ rest) ≡ (byte, rest)
flags_read count byte rest fits below =
    let back = flags_byte_back count byte below in
    ap (λ k. read_signs k (signs (flags_from count 0 byte) ++ rest)) (sym (flags_from_length count 0 byte))
    ∙ signs_back (flags_from count 0 byte) (omega (arith, back)) ∙ ap (λ b. (b, rest)) back

-- what is made of a thing is read back where the thing is
mapped_back : {A : Type 0} {Spells : List ℕ → A → Type 0} {make : A → List Item} (read : Reader) (text : List Item → List ℕ)
    → ((bytes rest : List ℕ) (x : A) → IsBytes bytes → Spells bytes x → Ends rest → read (text (make x) ++ rest) ≡ (bytes, rest))
    → IsReadAs read (SpellsMapped Spells make) text
mapped_back read text back bytes rest items fits h e =
    cc (h.made, back bytes rest h.thing fits h.spelled e)

form_back : (form : Form) → IsReadAs (read_form form) (SpellsForm strict form) (form_text form)
unfolding read_form form_text read_flags
form_back (number_form width) = mapped_back (read_number (byte_count width)) (form_text (number_form width)) (number_back width)
form_back (flags_form count) =
    mapped_back (read_flags count) (form_text (flags_form count))
    (λ bytes rest flags fits s e. ap (λ flags. read_flags count (signs flags ++ rest)) (flags_of-map flags ∙ s.flags_are)
    ∙ ap (λ b. (b.0 ∷ [], b.1)) (flags_read count s.byte rest s.fits s.unused) ∙ ap (λ bs. (bs, rest)) (sym s.bytes_are))
form_back short_string_form = mapped_back (read_string 1) (form_text short_string_form) short_string_back
form_back long_string_form = mapped_back (read_string 4) (form_text long_string_form) long_string_back
form_back table_form = mapped_back (read_lists 64 true) (form_text table_form) (field_table_back 63)

-- ---- fields, one after another

-- The words of fields, in front of what ends a word, end one too.
pub slots_end : (slots : List Slot) (items : List Item) (rest : List ℕ) → Ends rest → Ends (slots_text slots items ++ rest)
unfolding slots_text is_hex is_digit
slots_end [] items rest e = e
slots_end (kept_slot form ∷ slots) items rest e = refl
slots_end (reserved_slot form constant ∷ slots) items rest e = slots_end slots items rest e

slot_back : (slot : Slot) → IsReadAs (read_slot slot) (SpellsSlot strict slot) (slot_text slot)
unfolding read_slot
slot_back (kept_slot form) bytes rest items fits h e = form_back form bytes rest items fits h e
slot_back (reserved_slot form constant) bytes rest items fits h e =
    ap (λ bs. (bs, rest)) (sym ((forms_lawful form).strict_is_canonical bytes h.dropped h.spelled ∙ ap (form_bytes form) h.unused))

-- The words of fields are read back as their canonical bytes, whatever follows.
pub slots_back : (slots : List Slot) → IsReadAs (read_slots slots) (SpellsSlots strict slots) (slots_text slots)
unfolding read_slots slots_text
slots_back [] bytes rest items fits h e = ap (λ bs. (bs, rest)) (sym h.0)
slots_back (slot ∷ slots) bytes rest items fits h e =
    let tail = slots_text slots h.two in
    let others = slots_back slots h.behind rest h.two (bytes_behind h.front h.behind h.bytes_are fits) h.second_is e in
    let first = slot_back slot h.front (tail ++ rest) h.one (bytes_front h.front h.behind h.bytes_are fits) h.first_is (slots_end slots h.two rest e) in
    ap (λ xs. read_slots (slot ∷ slots) (slots_text (slot ∷ slots) xs ++ rest)) h.joined
    ∙ ap (λ xs. read_slots (slot ∷ slots) (xs ++ rest)) (first_text slot slots h.front h.one h.two h.first_is)
    ∙ rw (append_assoc (slot_text slot h.one) tail rest, first, others) (ap (λ bs. (bs, rest)) (sym h.bytes_are))

-- ---- properties

strip_front : (name : List ℕ) {rest : List ℕ} → strip name (name ++ rest) ≡ Some rest
strip_front [] = refl
strip_front (c ∷ cs) {rest = rest} = rw (eq-eqb c c refl) (strip_front cs)

-- at some place two names have different characters
abbrev differ : List ℕ → List ℕ → Bool
differ [] b = false
differ (x ∷ xs) [] = false
differ (x ∷ xs) (y ∷ ys) = if y == x then differ xs ys else true

either_way : (same later : Bool) (o : Option (List ℕ)) → (later ≡ true → o ≡ None) → cond same later true ≡ true → cond same o None ≡ None
either_way true later o f h = f h
either_way false later o f h = refl

strip_other : (a b rest : List ℕ) → differ a b ≡ true → strip a (b ++ rest) ≡ None
strip_other [] b rest h = absurd cc
strip_other (x ∷ xs) [] rest h = absurd cc
strip_other (x ∷ xs) (y ∷ ys) rest h = either_way (y == x) _ _ (λ k. strip_other xs ys rest k) h

-- the name is not empty
abbrev not_empty : List ℕ → Bool
not_empty [] = false
not_empty (c ∷ cs) = true

at_end : (name : List ℕ) → not_empty name ≡ true → strip name [] ≡ None
at_end [] h = absurd cc
at_end (c ∷ cs) h = refl

-- a name is none of the later ones
abbrev apart_from : List ℕ → List Property → Bool
apart_from name [] = true
apart_from name (p ∷ ps) = differ name (property_name p.bit) && apart_from name ps

abbrev are_apart : List Property → Bool
are_apart [] = true
are_apart (p ∷ ps) = not_empty (property_name p.bit) && (apart_from (property_name p.bit) ps && are_apart ps)

-- where no later property has this name, their text does not begin with it
strip_none : (name : List ℕ) (ps : List Property) (options : List (Option Item)) → not_empty name ≡ true → apart_from name ps ≡ true
    → strip name (drop 1 (set_text ps options)) ≡ None
unfolding set_text option_text
strip_none name [] options some h = at_end name some
strip_none name (p ∷ ps) [] some h = at_end name some
strip_none name (p ∷ ps) (None ∷ options) some h = strip_none name ps options some (both_true (differ name (property_name p.bit)) (apart_from name ps) h).1
strip_none name (p ∷ ps) (Some item ∷ options) some h =
    let words = 61 ∷ form_text p.form (item ∷ []) in
    rw (append_assoc (property_name p.bit) words (set_text ps options))
    (strip_other name (property_name p.bit) (words ++ set_text ps options) (both_true (differ name (property_name p.bit)) (apart_from name ps) h).0)

-- The words of properties end the word before them.
pub set_end : (ps : List Property) (options : List (Option Item)) → Ends (set_text ps options)
unfolding set_text option_text is_hex is_digit
set_end [] options = tt
set_end (p ∷ ps) [] = tt
set_end (p ∷ ps) (None ∷ options) = set_end ps options
set_end (p ∷ ps) (Some item ∷ options) = refl

worth_some : (worth : ℕ) (items : List Item) → length items ≡ 1 → worth_of worth (first_item items) ≡ worth
unfolding worth_of
worth_some worth [] h = absurd (omega arith)
worth_some worth items h = refl

option_back : (present : Bool) (p : Property) (ps : List Property) (front behind : List ℕ) (option : Option Item) (options : List (Option Item)) (mask : ℕ)
    → gives_one p.form ≡ true → not_empty (property_name p.bit) ≡ true → apart_from (property_name p.bit) ps ≡ true
    → IsBytes front → SpellsOptional strict present p.form front option
    → read_set ps (set_text ps options) ≡ (mask % 2 ^ 16, (behind, []))
    → read_set (p ∷ ps) (option_text p option ++ set_text ps options) ≡ ((worth_of (2 ^ p.bit) option + mask) % 2 ^ 16, (front ++ behind, []))
unfolding read_set option_text worth_of
option_back true p ps front behind option options mask one some apart fits h others =
    let tail = set_text ps options in
    let words = form_text p.form h.thing in
    let count = form_count p.form front h.thing h.spelled in
    let text = ap (option_text p) h.made ∙ one_text h.thing p refl one count in
    let found =
    ap (strip (property_name p.bit)) (append_assoc (property_name p.bit) (61 ∷ words) tail) ∙ strip_front (property_name p.bit) in
    let worth : worth_of (2 ^ p.bit) option ≡ 2 ^ p.bit = cc (h.made, worth_some (2 ^ p.bit) h.thing (count ∙ counted_one p.form one)) in
    let sum : (2 ^ p.bit % 2 ^ 16 + mask % 2 ^ 16) % 2 ^ 16 ≡ (worth_of (2 ^ p.bit) option + mask) % 2 ^ 16 = omega (arith, worth) in
    ap (λ xs. read_set (p ∷ ps) (xs ++ tail)) text
    ∙ ap (with_option p (read_set ps) (32 ∷ ((property_name p.bit ++ 61 ∷ words) ++ tail))) found
    ∙ rw (form_back p.form front tail h.thing fits h.spelled (set_end ps options), others) (ap (λ k. (k, (front ++ behind, []))) sum)
option_back false p ps front behind option options mask one some apart fits h others =
    ap (λ o. read_set (p ∷ ps) (option_text p o ++ set_text ps options)) h.1
    ∙ ap (with_option p (read_set ps) (set_text ps options)) (strip_none (property_name p.bit) ps options some apart) ∙ others
    ∙ ap (λ k. (k % 2 ^ 16, (behind, []))) {x = mask} {y = 0 + mask} (omega arith)
    ∙ ap₂ (λ (o : Option Item) (bs : List ℕ). ((worth_of (2 ^ p.bit) o + mask) % 2 ^ 16, (bs ++ behind, []))) (sym h.1) (sym h.0)

set_back : (mask : ℕ) (ps : List Property) → give_one ps ≡ true → are_apart ps ≡ true → (bytes : List ℕ) (options : List (Option Item))
    → IsBytes bytes → SpellsSet strict mask ps bytes options → read_set ps (set_text ps options) ≡ (mask_of ps options % 2 ^ 16, (bytes, []))
unfolding read_set set_text mask_of
set_back mask [] one apart bytes options fits h = ap (λ bs. (0, (bs, []))) (sym h.0)
set_back mask (p ∷ ps) one apart bytes options fits h =
    let b = both_true _ _ one in
    let name = both_true _ _ apart in
    let a = both_true _ _ name.1 in
    let others = set_back mask ps b.1 a.1 h.behind h.two (bytes_behind h.front h.behind h.bytes_are fits) h.second_is in
    cc (
      h.joined,
      option_back (flag_at mask p.bit) p ps h.front h.behind h.one h.two (mask_of ps h.two) b.0 name.0 a.0
          (bytes_front h.front h.behind h.bytes_are fits) h.first_is others,
      h.bytes_are,
    )

each_apart : are_apart properties ≡ true
unfolding properties later_properties property_name
each_apart = refl

-- a mask of two bytes
low_mask : (n : ℕ) → number_bytes bytes2 (n % 2 ^ 16) ≡ number_bytes bytes2 n
low_mask n = grind arith

-- The words of properties are read back as their canonical bytes, to the end of the text.
pub properties_back : (bytes : List ℕ) (options : List (Option Item)) → IsBytes bytes
    → SpellsProperties strict bytes options → read_properties (set_text properties options) ≡ (bytes, [])
unfolding read_properties properties_bytes form_bytes
properties_back bytes options fits h =
    let mask = mask_of properties options in
    let front =
    sym (take_at (number_bytes bytes2 mask) (set_bytes properties options) 2 refl)
    ∙ ap (take 2) (sym (properties_lawful.strict_is_canonical bytes options h) ∙ h.bytes_are) ∙ take_at (number_bytes bytes2 h.mask) h.behind 2 refl in
    ap (λ set. (last_bytes 2 set.0 ++ set.1.0, set.1.1))
    (set_back h.mask properties one_each each_apart h.behind options (bytes_behind (number_bytes bytes2 h.mask) h.behind h.bytes_are fits) h.set)
    ∙ ap (λ bs. (bs ++ h.behind, [])) (low_mask mask ∙ front) ∙ ap (λ bs. (bs, [])) (sym h.bytes_are)
