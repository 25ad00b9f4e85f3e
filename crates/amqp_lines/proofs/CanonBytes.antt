-- The canonical bytes of what was read of bytes are bytes.
use Rattle.amqp_lines.proofs
use proofs.Names.{◌≡◌, ℕ, zero, suc, ◌<◌, Bool, true, false, List, [], ◌∷◌, ◌++◌, length, get_or, Option, refl, sym, ap, subst, ◌∙◌, arith, AllByRecursion}
use proofs.Names.{plain, IsBytes, SpellsMapped, SpellsBoth, NumberWidth, bytes1, bytes2, bytes4, bytes8, number_bytes, SpellsNumber, flag_at, SpellsFlags}
use proofs.Names.{SpellsShortString, SpellsLongString, FieldValue, FieldValues, FieldEntries, Entry, boolean_value, signed_value, unsigned_value, decimal_value}
use proofs.Names.{bytes_value, array_value, table_value, void_value, items, pairs, entries_of, signed_width, unsigned_width, SpellsEach, SpellsEntry}
use proofs.Names.{SpellsTable, SpellsBehind, SpellsTagged, SpellsValue, tag_byte, tag_of, FieldTag, Item, number_item, text_item, bytes_item, Form, number_form}
use proofs.Names.{flags_form, short_string_form, long_string_form, table_form, Slot, kept_slot, reserved_slot, form_bytes, SpellsForm, SpellsSlots}
use proofs.Names.{payload_bytes, SpellsPayload, Property, properties, gives_one, give_one, mask_of, set_bytes, properties_bytes, SpellsOptional, SpellsSet}
use proofs.Names.{SpellsProperties, header_slots, content_header_bytes, SpellsContentHeader, entries_of-pairs, flags_of-map, form_gives, both_true, one_each}
use proofs.Names.{Frame, Proto, Meth, Head, Body, Beat, BadBeat, Spells, SpellsFrames, IsFramed, canon, canon_frames, IsBytes-append, IsBytes-nil, options_are}
use proofs.Names.tag
use Rattle.amqp_types.specs.Flags.{flags_bytes}
use Rattle.amqp_types.specs.Strings.{short_string_bytes, with_length}
use Rattle.amqp_types.specs.Values.{values_of}
use Rattle.amqp_types.specs.ValueBytes.{value_bytes, tagged_bytes, values_bytes, entries_bytes, table_bytes}
use Rattle.amqp_types.specs.ValueSpelling.{SpellsFieldTable}
use Rattle.amqp_types.specs.SlotBytes.{slots_bytes}
use Rattle.amqp_types.specs.SlotLaws.{is_least, are_least}
use Rattle.amqp_types.specs.PropertyBytes.{optional_bytes}
use Rattle.amqp_types.proofs.FormLaws.{flags_lawful}
use Rattle.amqp_laws.proofs.Conversions.{values_of-items}
use Rattle.amqp_laws.proofs.Entries.{EachEntry, each-settled_on, each-nil}
use Rattle.amqp_laws.proofs.Settling.{settled_is}
use Rattle.amqp_laws.proofs.SlotLaws.{constant_strict, kept_bytes}
use Rattle.amqp_laws.proofs.MethodLaws.{in_table, payload_of_slots}
use Rattle.amqp_wire.specs.Spelling.{framed, head}
use proofs.ReadWords.{bytes_behind}
use Rattle.amqp_laws.proofs.Options.{first_bytes}
use proofs.Newlines.{each_both, each_front, each_back}

-- ---- lists of bytes, byte by byte

abbrev All : List ℕ → Type 0
All = AllByRecursion (λ byte. byte < 256)

all_both : (xs ys : List ℕ) → All xs → All ys → All (xs ++ ys)
all_both = each_both _

-- the bytes of the two parts of some bytes
halves : {bytes : List ℕ} (front behind : List ℕ) → bytes ≡ front ++ behind → All bytes → All front × All behind
halves front behind is h = let parts = subst All is h in (each_front _ front behind parts, each_back _ front behind parts)

-- What stands at any place of a list of one byte, and 0 beside it, is below 256.
pub one_byte : (x i : ℕ) → x < 256 → get_or (x ∷ []) i 0 < 256
one_byte x zero h = h
one_byte x (suc i) h = omega arith

are_bytes : (xs : List ℕ) → All xs → IsBytes xs
are_bytes [] h = IsBytes-nil
are_bytes (x ∷ xs) h = IsBytes-append (x ∷ []) xs (λ i. one_byte x i h.0) (are_bytes xs h.1)

all_bytes : (xs : List ℕ) → IsBytes xs → All xs
all_bytes [] h = tt
all_bytes (x ∷ xs) h = (h 0, all_bytes xs (bytes_behind (x ∷ []) xs refl h))

number_all : (width : NumberWidth) (n : ℕ) → All (number_bytes width n)
number_all bytes1 n = omega arith
number_all bytes2 n = omega arith
number_all bytes4 n = omega arith
number_all bytes8 n = omega arith

long_all : (content : List ℕ) → All content → All (with_length content)
long_all content h = all_both (number_bytes bytes4 (length content)) content (number_all bytes4 _) h

long_inner : {bytes content : List ℕ} → All bytes → SpellsLongString bytes content → All content
long_inner {content = content} fits h = (halves (number_bytes bytes4 (length content)) content h.bytes_are fits).1

-- the canonical bytes of what is encoded by bytes are bytes
abbrev Keeps : {A : Type 0} → (List ℕ → A → Type 0) → (A → List ℕ) → Type 0
Keeps {A} Spelled canonical = (bytes : List ℕ) (x : A) → All bytes → Spelled bytes x → All (canonical x)

mapped_keeps : {A B : Type 0} (make : A → B) (Spelled : List ℕ → A → Type 0) (canonical : A → List ℕ) (other : B → List ℕ)
    → ((x : A) → other (make x) ≡ canonical x) → Keeps Spelled canonical → Keeps (SpellsMapped Spelled make) other
mapped_keeps make Spelled canonical other same h bytes y fits s = subst All (sym (ap other s.made ∙ same s.thing)) (h bytes s.thing fits s.spelled)

both_keep : {A B C : Type 0} (First : List ℕ → A → Type 0) (Second : List ℕ → B → Type 0) (join : A → B → C) (a : A → List ℕ) (b : B → List ℕ) (c : C → List ℕ)
    → ((bytes : List ℕ) (x : A) (y : B) → First bytes x → c (join x y) ≡ a x ++ b y) → Keeps First a → Keeps Second b → Keeps (SpellsBoth First Second join) c
both_keep First Second join a b c same h k bytes z fits s =
    let parts = halves s.front s.behind s.bytes_are fits in
    subst All (sym (ap c s.joined ∙ same s.front s.one s.two s.first_is))
    (all_both _ _ (h s.front s.one parts.0 s.first_is) (k s.behind s.two parts.1 s.second_is))

-- ---- values

tag_below : (t : FieldTag) → tag_byte t < 256
tag_below tag.Boolean = omega arith
tag_below t = omega arith

-- keys and values of which the canonical bytes are bytes
IsKey : List ℕ → Type 0
IsKey key = All (short_string_bytes key)

IsGood : FieldValue → Type 0
IsGood v = All (tagged_bytes v)

each_bytes : (es : List Entry) → EachEntry IsKey IsGood es → All (entries_bytes (entries_of es))
unfolding EachEntry IsKey IsGood
each_bytes [] h = tt
each_bytes (e ∷ es) h =
    all_both (short_string_bytes e.0 ++ tagged_bytes e.1) _
    (all_both (short_string_bytes e.0) (tagged_bytes e.1) h.0 h.1) (each_bytes es h.2)

module _ (room : ℕ) (Spelled : List ℕ → FieldValue → Type 0) (good : Keeps Spelled tagged_bytes) where
  values_keep : (bytes : List ℕ) (vs : List FieldValue) → All bytes → SpellsEach Spelled bytes vs → All (values_bytes (values_of vs))
  values_keep bytes [] fits h = tt
  values_keep bytes (v ∷ vs) fits h =
      let parts = halves h.0 h.1 h.2 fits in all_both (tagged_bytes v) _ (good h.0 v parts.0 h.3) (values_keep h.1 vs parts.1 h.4)

  entries_keep : (bytes : List ℕ) (es : List Entry) → All bytes → SpellsEach (SpellsEntry Spelled) bytes es → EachEntry IsKey IsGood es
  unfolding EachEntry IsKey IsGood
  entries_keep bytes [] fits h = tt
  entries_keep bytes (e ∷ es) fits h =
      let parts = halves h.0 h.1 h.2 fits in
      let entry = h.3 in
      let inner = halves entry.front entry.behind entry.bytes_are parts.0 in (
        rw entry.joined (subst All entry.first_is.bytes_are inner.0),
        rw entry.joined (good entry.behind entry.two inner.1 entry.second_is),
        entries_keep h.1 es parts.1 h.4,
      )

  table_keeps : (bytes : List ℕ) (es : List Entry) → All bytes → SpellsTable plain Spelled bytes es → All (value_bytes (table_value (entries_of es)))
  table_keeps bytes es fits h =
      let read = entries_keep h.inner h.entries (long_inner fits h.framed) h.each in
      let kept = rw (settled_is h.entries es h.counts) at (each-settled_on IsKey IsGood [] h.entries (each-nil IsKey IsGood) read) in
      long_all _ (each_bytes es kept)

  behind_keeps : Keeps (SpellsBehind plain room Spelled) value_bytes
  behind_keeps bytes (boolean_value true) fits h = omega arith
  behind_keeps bytes (boolean_value false) fits h = omega arith
  behind_keeps bytes (signed_value kind n) fits h = number_all (signed_width kind) _
  behind_keeps bytes (unsigned_value kind n) fits h = number_all (unsigned_width kind) n
  behind_keeps bytes (decimal_value scale n) fits h =
      all_both (number_bytes bytes1 scale) (number_bytes bytes4 n) (number_all bytes1 scale) (number_all bytes4 n)
  behind_keeps bytes (bytes_value kind content) fits h = subst All h.bytes_are fits
  behind_keeps bytes (array_value vs) fits h =
      let P : FieldValues → Type 0 = λ ws. All (value_bytes (array_value ws)) in
      subst P (values_of-items vs) (long_all _ (values_keep h.1.inner (items vs) (long_inner fits h.1.framed) h.1.each))
  behind_keeps bytes (table_value es) fits h =
      let P : FieldEntries → Type 0 = λ fs. All (value_bytes (table_value fs)) in
      subst P (entries_of-pairs es) (table_keeps bytes (pairs es) fits h.1)
  behind_keeps bytes void_value fits h = tt

tagged_keeps : (Spelled : List ℕ → FieldValue → Type 0) → Keeps Spelled value_bytes → Keeps (SpellsTagged plain Spelled) tagged_bytes
tagged_keeps Spelled keeps bytes v fits h = (tag_below (tag_of v), keeps h.behind v (subst All h.bytes_are fits).1 h.value_is)

value_keeps : (room : ℕ) → Keeps (SpellsValue plain room) tagged_bytes
unfolding SpellsValue
value_keeps zero = tagged_keeps _ (behind_keeps 0 (λ _ _. ⊥) (λ bytes v fits h. absurd h))
value_keeps (suc room) = tagged_keeps _ (behind_keeps (suc room) _ (value_keeps room))

tables_keep : Keeps (SpellsFieldTable plain) table_bytes
unfolding table_bytes
tables_keep bytes es fits h = table_keeps 0 _ (value_keeps 63) bytes es fits h

-- ---- fields

flags_keep : (count : ℕ) → Keeps (SpellsFlags plain count) flags_bytes
flags_keep count bytes flags fits h = let s = (flags_lawful count).canonical_is_strict bytes flags h in subst All (sym s.bytes_are) (s.fits, tt)

forms_keep : (form : Form) → Keeps (SpellsForm plain form) (form_bytes form)
unfolding form_bytes
forms_keep (number_form width) =
    mapped_keeps _ (SpellsNumber width) (number_bytes width) (form_bytes (number_form width)) (λ n. refl) (λ bytes n fits h. number_all width n)
forms_keep (flags_form count) =
    mapped_keeps _ _ flags_bytes (form_bytes (flags_form count)) (λ flags. ap flags_bytes (flags_of-map flags)) (flags_keep count)
forms_keep short_string_form =
    mapped_keeps _ SpellsShortString short_string_bytes (form_bytes short_string_form) (λ text. refl) (λ bytes text fits h. subst All h.bytes_are fits)
forms_keep long_string_form =
    mapped_keeps _ SpellsLongString with_length (form_bytes long_string_form) (λ content. refl) (λ bytes content fits h. subst All h.bytes_are fits)
forms_keep table_form = mapped_keeps _ _ table_bytes (form_bytes table_form) (λ es. refl) tables_keep

constant_all : (form : Form) (constant : List Item) → is_least form constant ≡ true → All (form_bytes form constant)
unfolding form_bytes
constant_all (number_form width) (number_item n ∷ []) least = number_all width n
constant_all (flags_form count) constant least =
    let s = (constant_strict (flags_form count) constant least).spelled in
    subst All (sym s.bytes_are) (s.fits, tt)
constant_all short_string_form (text_item [] ∷ []) least = omega arith
constant_all long_string_form (bytes_item [] ∷ []) least = omega arith
constant_all form constant least = absurd cc

slots_keep : (slots : List Slot) → are_least slots ≡ true → Keeps (SpellsSlots plain slots) (slots_bytes slots)
unfolding slots_bytes
slots_keep [] least = λ bytes items fits h. tt
slots_keep (kept_slot form ∷ slots) least =
    both_keep _ _ _ (form_bytes form) (slots_bytes slots) (slots_bytes (kept_slot form ∷ slots))
    (λ bytes xs ys h. kept_bytes form slots xs ys (form_gives form bytes xs h).count) (forms_keep form) (slots_keep slots least)
slots_keep (reserved_slot form constant ∷ slots) least =
    let b = both_true (is_least form constant) (are_least slots) least in
    both_keep _ _ _ (λ items. form_bytes form constant) (slots_bytes slots) (slots_bytes (reserved_slot form constant ∷ slots))
    (λ bytes xs ys h. ap (λ zs. form_bytes form constant ++ slots_bytes slots (zs ++ ys)) h.none)
    (λ bytes items fits h. constant_all form constant b.0) (slots_keep slots b.1)

-- ---- payloads

payloads_keep : Keeps (SpellsPayload plain) payload_bytes
payloads_keep bytes m fits h =
    let least = (in_table m.class m.id h.slots h.known).least in
    let tail = (halves h.class_bytes (h.id_bytes ++ h.slot_bytes) h.bytes_are fits).1 in
    let slots = slots_keep h.slots least h.slot_bytes m.items (halves h.id_bytes h.slot_bytes refl tail).1 h.slots_are in
    rw (payload_of_slots m h.slots h.known) (all_both (number_bytes bytes2 m.class) (number_bytes bytes2 m.id ++ slots_bytes h.slots m.items)
    (number_all bytes2 m.class) (all_both (number_bytes bytes2 m.id) _ (number_all bytes2 m.id) slots))

optional_keeps : (present : Bool) (form : Form) → gives_one form ≡ true → Keeps (SpellsOptional plain present form) (optional_bytes form)
unfolding optional_bytes
optional_keeps true form one = mapped_keeps _ _ (form_bytes form) (optional_bytes form) (first_bytes form one) (forms_keep form)
optional_keeps false form one = λ bytes option fits h. rw h.1 tt

sets_keep : (mask : ℕ) (ps : List Property) → give_one ps ≡ true → Keeps (SpellsSet plain mask ps) (set_bytes ps)
unfolding set_bytes
sets_keep mask [] one = λ bytes options fits h. tt
sets_keep mask (p ∷ ps) one =
    let b = both_true (gives_one p.form) (give_one ps) one in
    both_keep _ _ _ (optional_bytes p.form) (set_bytes ps) (set_bytes (p ∷ ps)) (λ bytes option options h. refl)
    (optional_keeps (flag_at mask p.bit) p.form b.0) (sets_keep mask ps b.1)

properties_keep : Keeps (SpellsProperties plain) properties_bytes
unfolding properties_bytes form_bytes
properties_keep bytes options fits h =
    all_both (number_bytes bytes2 (mask_of properties options)) _ (number_all bytes2 (mask_of properties options))
    (sets_keep h.mask properties one_each h.behind options (halves (number_bytes bytes2 h.mask) h.behind h.bytes_are fits).1 h.set)

parts_all : (class size : ℕ) → All (slots_bytes header_slots (number_item class ∷ number_item size ∷ []))
unfolding header_slots slots_bytes form_bytes
parts_all class size = omega arith

headers_keep : Keeps (SpellsContentHeader plain) content_header_bytes
unfolding content_header_bytes
headers_keep bytes header fits h =
    let set = properties_keep h.behind h.two (halves h.front h.behind h.bytes_are fits).1 h.second_is in
    let same : header.options ≡ h.two = cc (h.joined, options_are h.one h.two) in
    all_both _ _ (parts_all header.class_id header.body_size) (rw same set)

-- ---- frames

framed_all : (type channel : ℕ) (payload : List ℕ) → type < 256 → All payload → All (framed type channel payload)
framed_all type channel payload low h =
    all_both (head type channel (length payload)) _ (omega (arith, low)) (all_both payload _ h (omega arith, tt))

framed_inner : {bytes payload : List ℕ} {type channel : ℕ} → All bytes → IsFramed bytes type channel payload → All payload
framed_inner {payload = payload} {type = type} {channel = channel} fits h =
    each_front _ payload _ (halves (head type channel (length payload)) (payload ++ 206 ∷ []) h.bytes_are fits).1

frames_keep : Keeps (Spells plain) canon
unfolding canon
frames_keep bytes (Proto major minor revision) fits h = subst All h fits
frames_keep bytes (Meth channel m) fits h =
    framed_all 1 channel _ (omega arith) (payloads_keep h.payload m (framed_inner fits h.is_framed) h.spelled)
frames_keep bytes (Head channel header) fits h =
    framed_all 2 channel _ (omega arith) (headers_keep h.payload header (framed_inner fits h.is_framed) h.spelled)
frames_keep bytes (Body channel content) fits h = subst All h.bytes_are fits
frames_keep bytes Beat fits h = framed_all 8 0 [] (omega arith) tt
frames_keep bytes (BadBeat channel) fits h = framed_all 8 channel [] (omega arith) tt

sequences_keep : (m : Option ℕ) (bytes : List ℕ) (frames : List Frame) → All bytes → SpellsFrames plain m bytes frames → All (canon_frames frames)
sequences_keep m bytes [] fits h = tt
sequences_keep m bytes (f ∷ fs) fits h =
    let parts = halves h.0 h.1 h.2 fits in all_both _ _ (frames_keep h.0 f parts.0 h.3) (sequences_keep m h.1 fs parts.1 h.5)

-- The canonical bytes of frames that some bytes encode are bytes.
pub canonical_bytes : (m : Option ℕ) (bytes : List ℕ) (frames : List Frame) → IsBytes bytes → SpellsFrames plain m bytes frames → IsBytes (canon_frames frames)
canonical_bytes m bytes frames fits h = are_bytes _ (sequences_keep m bytes frames (all_bytes bytes fits) h)
