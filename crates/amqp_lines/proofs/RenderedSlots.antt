-- What calls write of the canonical bytes of fields and properties, one after another.
use Rattle.amqp_lines.proofs
use proofs.Names.{Bor, ◌≡◌, ℕ, ◌<◌, ◌≤◌, true, false, List, [], ◌∷◌, ◌++◌, length, get_or, drop, map, Result, Ok, Err, refl, sym, ap, ap₂, ◌∙◌, append_assoc}
use proofs.Names.{append-nil, arith, codes, decimal, take_at, drop_at, plain, strict, took, flag_at, SpellsFlags, bytes2, number_bytes, judge_number}
use proofs.Names.{SpellsMapped, SpellsBoth, Item, number_item, text_item, bytes_item, entries_item, number_form, flags_form, short_string_form}
use proofs.Names.{long_string_form, table_form, kept_slot, reserved_slot, SpellsForm, SpellsSlot, SpellsSlots, Property, properties, first_item, gives_one}
use proofs.Names.{give_one, SpellsOptional, SpellsSet, SpellsProperties, NoMemory, number_exact, long_string_exact, value_took, flags_of-map, forms_lawful}
use proofs.Names.{form_gives, both_true, one_each, form_of, property_of, slot_of, slots_of, IsRead, quoted, signs, table_text, form_text, slots_text}
use proofs.Names.{property_name, option_text, set_text, Says, WritesText, slot_text, lengths}
use proofs.Names.slots
use Rattle.amqp_types.specs.Slots.{Form as Meant, Slot as Field}
use Rattle.amqp_types.specs.SlotBytes.{item_count}
use Rattle.amqp_types.specs.SlotJudging.{judge_form}
use Rattle.amqp_types.specs.Tidiness.{used_by}
use Rattle.amqp_types.proofs.FormLaws.{flags_exact}
use Rattle.amqp_laws.proofs.SlotLaws.{form_is_plain}
use Rattle.amqp_canonical.specs.declared.shapes.Form.{Form}
use Rattle.amqp_canonical.specs.declared.shapes.Slot.{Slot}
use Rattle.amqp_lines.specs.Rendering.{SpellsOnes, WritesForm}
use proofs.Rendered.{exactly}

-- ---- one field

-- A strict encoding of a field's form gives as many items as the form.
pub form_count : (form : Meant) (bytes : List ℕ) (items : List Item) → SpellsForm strict form bytes items → length items ≡ item_count form
form_count form bytes items h = (form_gives form bytes items (form_is_plain strict form bytes items h)).count

-- the text of what is made of a thing is that of the thing
mapped : {A : Type 0} (Spells : List ℕ → A → Type 0) (make : A → List Item) (text : A → List ℕ) (whole : List Item → List ℕ)
    → ((x : A) → text x ≡ whole (make x)) → (i old new : List ℕ) (r : Result ℕ NoMemory)
    → WritesText Spells text i old new r → WritesText (SpellsMapped Spells make) whole i old new r
mapped Spells make text whole same i old new (Err error) h = tt
mapped Spells make text whole same i old new (Ok n) h = λ bytes rest items is s.
    let w = h bytes rest s.thing is s.spelled in
    (w.0, cc (w.1, same s.thing, s.made))

pub form_written : (form : Meant) (i old new : List ℕ) (r : Result ℕ NoMemory)
    → WritesForm form i old new r → WritesText (SpellsForm strict form) (form_text form) i old new r
unfolding WritesForm form_text
form_written (number_form width) i old new r h =
    mapped _ (λ n. number_item n ∷ []) decimal _ (λ n. refl) i old new r (exactly decimal (number_exact width) i old new r h)
form_written (flags_form count) i old new (Err error) h = tt
form_written (flags_form count) i old new (Ok n) h = λ bytes rest items is s.
    mapped (SpellsFlags plain count) _ signs (form_text (flags_form count)) (λ flags. ap signs (sym (flags_of-map flags))) i old new
    (Ok n) (exactly signs (flags_exact count) i old new (Ok n) h) bytes rest items is (form_is_plain strict (flags_form count) bytes items s)
form_written short_string_form i old new r h =
    mapped _ (λ text. text_item text ∷ []) quoted _ (λ text. refl) i old new r h
form_written long_string_form i old new r h =
    mapped _ (λ bytes. bytes_item bytes ∷ []) quoted _ (λ bytes. refl) i old new r (exactly quoted long_string_exact i old new r h)
form_written table_form i old new r h = mapped _ (λ es. entries_item es ∷ []) table_text _ (λ es. refl) i old new r h

-- A reserved field is written as no word, and takes what its form takes.
pub reserved_written : {slot : Slot} (form : Form) (constant : Bor (List ℕ)) (i old : List ℕ) (n : ℕ)
    → slot ≡ slots.Reserved form constant → (IsRead (judge_form (form_of form) i) → n ≡ used_by (judge_form (form_of form) i))
    → WritesText (SpellsSlot strict (slot_of slot)) (slot_text (slot_of slot)) i old old (Ok n)
reserved_written form constant i old n is h =
    rw is (λ bytes rest items at s.
    let read = (forms_lawful _).exact.taken bytes rest s.dropped (form_is_plain strict _ bytes s.dropped s.spelled) in
    ((rw (at, read) at h) tt, sym (append-nil old)))

-- A space and then the text of its form are what is written for a field that is kept.
pub kept_written : (slot : Slot) (form : Form) (i old mid new : List ℕ) (r : Result ℕ NoMemory) → slot ≡ slots.Kept form → mid ≡ old ++ codes " "
    → WritesForm (form_of form) i mid new r → WritesText (SpellsSlot strict (slot_of slot)) (slot_text (slot_of slot)) i old new r
kept_written slot form i old mid new (Err error) is space h = tt
kept_written slot form i old mid new (Ok n) is space h =
    rw is (λ bytes rest items at s.
    let one = form_written _ i mid new _ h bytes rest items at s in
    (one.0, rw (one.1, space) (append_assoc old _ _)))

-- ---- fields, one after another

-- Where no fields are left, nothing is written for them.
pub no_slots : (shapes : List Slot) (i old : List ℕ) → length shapes < 1
    → Says (SpellsSlots strict (slots_of shapes)) (slots_text (slots_of shapes)) i old old (Ok tt)
unfolding slots_text
no_slots [] i old h = λ bytes rest items is s. sym (append-nil old)
no_slots (shape ∷ shapes) i old h = absurd (omega arith)

-- The text of one field and of the others is that of the field, and then that of the others.
pub first_text : (slot : Field) (fields : List Field) (bytes : List ℕ) (one two : List Item) → SpellsSlot strict slot bytes one
    → slots_text (slot ∷ fields) (one ++ two) ≡ slot_text slot one ++ slots_text fields two
unfolding slots_text
first_text (kept_slot form) fields bytes one two s =
    let count = form_count form bytes one s in
    ap₂ (λ xs ys. (codes " " ++ form_text form xs) ++ slots_text fields ys) (take_at one two (item_count form) count) (drop_at one two (item_count form) count)
first_text (reserved_slot form constant) fields bytes one two s = ap (λ xs. slots_text fields (xs ++ two)) s.none

-- the text of one thing, and then that of another, is the text of both
both_said : {A B C : Type 0} (First : List ℕ → A → Type 0) (Second : List ℕ → B → Type 0) (join : A → B → C)
    (a : A → List ℕ) (b : B → List ℕ) (c : C → List ℕ) (i next old mid new : List ℕ) (used : ℕ) (r : Result (Unit {0}) NoMemory)
    → ((bytes : List ℕ) (x : A) (y : B) → First bytes x → c (join x y) ≡ a x ++ b y)
    → WritesText First a i old mid (Ok used) → next ≡ drop used i → Says Second b next mid new r → Says (SpellsBoth First Second join) c i old new r
both_said First Second join a b c i next old mid new used (Err error) same w e h = tt
both_said First Second join a b c i next old mid new used (Ok done) same w e h = λ bytes rest z is s.
    let at = is ∙ ap (λ bs. bs ++ rest) s.bytes_are ∙ append_assoc s.front s.behind rest in
    let one = w s.front _ s.one at s.first_is in
    let next_is = e ∙ ap (drop used) at ∙ drop_at s.front _ used (sym one.0) in
    cc (h s.behind rest s.two next_is s.second_is, one.1, append_assoc old (a s.one) (b s.two), same s.front s.one s.two s.first_is, s.joined)

-- The text of one field, and then that of the others, is the text of the fields.
pub slots_said : (shapes : List Slot) (other : Slot) (i next old mid new : List ℕ) (used : ℕ) (r : Result (Unit {0}) NoMemory) → 1 ≤ length shapes
    → WritesText (SpellsSlot strict (slot_of (get_or shapes 0 other))) (slot_text (slot_of (get_or shapes 0 other))) i old mid (Ok used) → next ≡ drop used i
    → Says (SpellsSlots strict (slots_of (drop 1 shapes))) (slots_text (slots_of (drop 1 shapes))) next mid new r
    → Says (SpellsSlots strict (slots_of shapes)) (slots_text (slots_of shapes)) i old new r
slots_said [] other i next old mid new used r some w e h = absurd (omega arith)
slots_said (shape ∷ shapes) other i next old mid new used r some w e h =
    both_said _ _ (λ xs ys. xs ++ ys) _
    _ _ i next old mid new used r (first_text _ _) w e h

-- ---- properties

-- the first of the items of a form that gives one
pub one_text : {form : Meant} (items : List Item) (p : Property) → p.form ≡ form → gives_one form ≡ true → length items ≡ item_count form
    → option_text p (first_item items) ≡ codes " " ++ (property_name p.bit ++ (codes "=" ++ form_text p.form items))
unfolding option_text
one_text {form = flags_form count} items p is one h = absurd cc
one_text {form = number_form width} (item ∷ []) p is one h = refl
one_text (item ∷ []) p is one h = refl
one_text items p is one h = absurd (omega arith)

-- Where no properties are left, nothing is written for them.
pub no_options : (mask : ℕ) (shapes : List (ℕ × Form)) (i old : List ℕ) → length shapes < 1
    → Says (SpellsOnes mask (map property_of shapes)) (set_text (map property_of shapes)) i old old (Ok tt)
unfolding set_text
no_options mask [] i old h = λ bytes rest options is s. sym (append-nil old)
no_options mask (shape ∷ shapes) i old h = absurd (omega arith)

-- the text of one property, and then that of the others, is the text of the properties
option_then : (mask : ℕ) (p : Property) (ps : List Property) (i next old mid new : List ℕ) (used : ℕ) (r : Result (Unit {0}) NoMemory)
    → (gives_one p.form ≡ true → WritesText (SpellsOptional strict (flag_at mask p.bit) p.form) (option_text p) i old mid (Ok used)) → next ≡ drop used i
    → Says (SpellsOnes mask ps) (set_text ps) next mid new r → Says (SpellsOnes mask (p ∷ ps)) (set_text (p ∷ ps)) i old new r
unfolding set_text
option_then mask p ps i next old mid new used (Err error) w e h = tt
option_then mask p ps i next old mid new used (Ok done) w e h = λ bytes rest options is set.
    let ones = both_true (gives_one p.form) (give_one ps) set.0 in
    both_said (SpellsOptional strict (flag_at mask p.bit) p.form) (SpellsSet strict mask ps) (λ option others. option ∷ others) (option_text p) (set_text ps)
    (set_text (p ∷ ps)) i next old mid new used (Ok done) (λ bs x ys s. refl) (w ones.0) e
    (λ bs more os at s. h bs more os at (ones.1, s)) bytes rest options is set.1

-- A property that is not set is written as no word.
pub option_past : (mask : ℕ) (shapes : List (ℕ × Form)) (other : ℕ × Form) (i old new : List ℕ) (r : Result (Unit {0}) NoMemory)
    → 1 ≤ length shapes → flag_at mask (get_or shapes 0 other).0 ≡ false
    → Says (SpellsOnes mask (map property_of (drop 1 shapes))) (set_text (map property_of (drop 1 shapes))) i old new r
    → Says (SpellsOnes mask (map property_of shapes)) (set_text (map property_of shapes)) i old new r
unfolding option_text
option_past mask [] other i old new r some off h = absurd (omega arith)
option_past mask (shape ∷ shapes) other i old new r some off h =
    option_then mask (property_of shape) (map property_of shapes) i i old old new 0 r (λ one. rw off (λ bytes rest option is s.
    (ap length (sym s.0), cc (append-nil old, s.1)))) refl h

-- A space, the name of a property that is set, an equals sign and its text, and then the others, are the text of the properties.
pub option_said : (mask : ℕ) (shapes : List (ℕ × Form)) (other : ℕ × Form) (i next old a b new : List ℕ) (used : ℕ) (r : Result (Unit {0}) NoMemory)
    → 1 ≤ length shapes → flag_at mask (get_or shapes 0 other).0 ≡ true
    → a ≡ old ++ (codes " " ++ (property_name (get_or shapes 0 other).0 ++ codes "=")) → WritesForm (form_of (get_or shapes 0 other).1) i a b (Ok used)
    → next ≡ drop used i → Says (SpellsOnes mask (map property_of (drop 1 shapes))) (set_text (map property_of (drop 1 shapes))) next b new r
    → Says (SpellsOnes mask (map property_of shapes)) (set_text (map property_of shapes)) i old new r
option_said mask [] other i next old a b new used r some on name w e h = absurd (omega arith)
option_said mask (shape ∷ shapes) other i next old a b new used r some on name w e h =
    let p = property_of shape in
    option_then mask p (map property_of shapes) i next old b new used r (λ one. rw on (λ bytes rest option is s.
    let said = form_written p.form i a b _ w bytes rest s.thing is s.spelled in
    let text = ap (option_text p) s.made ∙ one_text s.thing p refl one (form_count p.form bytes s.thing s.spelled) in
    (said.0, rw (said.1, name, text) (simp append_assoc)))) e h

-- Fewer than two bytes are no properties, so that nothing is said of what is written for them.
pub no_properties : (bytes old : List ℕ) → length bytes < 2 → Says (SpellsProperties strict) (set_text properties) bytes old old (Ok tt)
no_properties bytes old few = λ front rest options is s. absurd (omega (lengths, few, ap length is, ap length s.bytes_are))

-- The text of the properties that the mask says are set is the text of the properties.
pub properties_said : (bytes : List ℕ) {next : List ℕ} (old new : List ℕ) {mask : ℕ} (r : Result (Unit {0}) NoMemory)
    → judge_number bytes2 bytes ≡ took mask 2 → next ≡ drop 2 bytes
    → Says (SpellsOnes mask properties) (set_text properties) next old new r → Says (SpellsProperties strict) (set_text properties) bytes old new r
properties_said bytes old new (Err error) read e h = tt
properties_said bytes old new {mask = mask} (Ok done) read e h = λ front rest options is s.
    let at = is ∙ ap (λ bs. bs ++ rest) s.bytes_are ∙ append_assoc (number_bytes bytes2 s.mask) s.behind rest in
    let taken = (number_exact bytes2).taken (number_bytes bytes2 s.mask) (s.behind ++ rest) s.mask (record { fits = s.fits; bytes_are = refl }) in
    let same = value_took s.mask mask 2 2 (cc (taken, at, read)) in
    h s.behind rest options (e ∙ ap (drop 2) at ∙ drop_at (number_bytes bytes2 s.mask) (s.behind ++ rest) 2 refl) (one_each, rw same at s.set)
