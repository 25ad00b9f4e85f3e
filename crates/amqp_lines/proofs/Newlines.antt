-- No word of a line holds a newline.
use Rattle.amqp_lines.proofs
use proofs.Names.{◌≡◌, ◌≢◌, ℕ, zero, suc, pos, negsuc, ◌/◌, ◌%◌, Bool, true, false, cond, List, [], ◌∷◌, ◌++◌, Option, Some, None, refl, inl, inr, codes}
use proofs.Names.{unwrap_or, ◌==◌, AllByRecursion, flat_map, list_all, digit_glyph, digits_onto, digits, decimal, signed_decimal, cases_eq, eq-eqb, ne_eqb}
use proofs.Names.{lookup, FieldValue, FieldValues, FieldEntries, Entry, boolean_value, signed_value, unsigned_value, decimal_value, bytes_value, array_value}
use proofs.Names.{table_value, void_value, long_string, byte_array, no_values, next_value, no_entries, next_entry, tag_of, FieldTag, Item, number_item}
use proofs.Names.{text_item, bytes_item, entries_item, Form, number_form, flags_form, short_string_form, long_string_form, table_form, Slot, kept_slot}
use proofs.Names.{reserved_slot, slots_at, Property, properties, Method, ContentHeader, both_true, Frame, Proto, Meth, Head, Body, Beat, BadBeat, hex_digit}
use proofs.Names.{hex_byte, hex, is_plain, escaped, quoted, sign, signs, parted, tag_text, truth_text, content_text, values_texts, entries_texts, table_text}
use proofs.Names.{form_text, slots_text, property_names, property_name, option_text, set_text, spaced, method_words, header_words, words, line, HasNoNewline}
use proofs.Names.{numbers}
use proofs.Names.tag
use Rattle.std.proofs.Common.{ℤ}
use Rattle.amqp_types.specs.SlotBytes.{flags_of}
use Rattle.amqp_lines.specs.Laws.{HasOneNewline}

-- What holds of each of some things, and of each of others, holds of each of all.
pub each_both : {A : Type 0} (P : A → Type 0) (xs ys : List A) → AllByRecursion P xs → AllByRecursion P ys → AllByRecursion P (xs ++ ys)
each_both P [] ys h k = k
each_both P (x ∷ xs) ys h k = (h.0, each_both P xs ys h.1 k)

-- What holds of each of some things, the first of which are these, holds of each of these.
pub each_front : {A : Type 0} (P : A → Type 0) (xs ys : List A) → AllByRecursion P (xs ++ ys) → AllByRecursion P xs
each_front P [] ys h = tt
each_front P (x ∷ xs) ys h = (h.0, each_front P xs ys h.1)

-- What holds of each of some things holds of each of the last of them.
pub each_back : {A : Type 0} (P : A → Type 0) (xs ys : List A) → AllByRecursion P (xs ++ ys) → AllByRecursion P ys
each_back P [] ys h = h
each_back P (x ∷ xs) ys h = each_back P xs ys h.1

-- No byte of some bytes is a newline, and none of others after them.
pub clean_both : (xs ys : List ℕ) → HasNoNewline xs → HasNoNewline ys → HasNoNewline (xs ++ ys)
clean_both = each_both _

-- ---- numbers

glyph_is_other : (d : ℕ) → digit_glyph false d ≢ 10
glyph_is_other d e = absurd (grind numbers)

clean_onto : (k n : ℕ) (acc : List ℕ) → HasNoNewline acc → HasNoNewline (digits_onto k 10 false n acc)
clean_onto zero n acc h = h
clean_onto (suc k) n acc h = elim (cases_eq (n / 10) 0) [
  | inl none ↦ rw (eq-eqb (n / 10) 0 none) (glyph_is_other (n % 10), h)
  | inr some ↦ rw (ne_eqb (n / 10) 0 some) (clean_onto k (n / 10) _ (glyph_is_other (n % 10), h))
]

clean_decimal : (n : ℕ) → HasNoNewline (decimal n)
unfolding digits
clean_decimal n = clean_onto 64 n [] tt

clean_signed : (n : ℤ) → HasNoNewline (signed_decimal n)
clean_signed (pos n) = clean_decimal n
clean_signed (negsuc n) = (λ e. absurd cc, clean_decimal (suc n))

-- ---- bytes and strings

hex_is_other : (n : ℕ) → hex_digit n ≢ 10
unfolding hex_digit
hex_is_other n e = absurd (grind numbers)

clean_hex_byte : (byte : ℕ) → HasNoNewline (hex_byte byte)
unfolding hex_byte
clean_hex_byte byte = (hex_is_other (byte / 16), (hex_is_other (byte % 16), tt))

clean_each : (f : ℕ → List ℕ) → ((n : ℕ) → HasNoNewline (f n)) → (bytes : List ℕ) → HasNoNewline (flat_map f bytes)
clean_each f one [] = tt
clean_each f one (byte ∷ bytes) = clean_both _ _ (one byte) (clean_each f one bytes)

clean_hex : (bytes : List ℕ) → HasNoNewline (hex bytes)
unfolding hex
clean_hex bytes = clean_each hex_byte clean_hex_byte bytes

plain_is_other : (byte : ℕ) → is_plain byte ≡ true → byte ≢ 10
unfolding is_plain
plain_is_other byte h e = absurd (grind numbers)

escaped_by : (byte : ℕ) (b : Bool) → is_plain byte ≡ b → HasNoNewline (cond b (byte ∷ []) (codes "\\" ++ hex_byte byte))
escaped_by byte true h = (plain_is_other byte h, tt)
escaped_by byte false h = (λ e. absurd cc, clean_hex_byte byte)

clean_escaped : (byte : ℕ) → HasNoNewline (escaped byte)
unfolding escaped
clean_escaped byte = escaped_by byte _ refl

clean_quoted : (bytes : List ℕ) → HasNoNewline (quoted bytes)
unfolding quoted
clean_quoted bytes = (λ e. absurd cc, clean_both _ _ (clean_each escaped clean_escaped bytes) (λ e. absurd cc, tt))

sign_is_other : (flag : Bool) → sign flag ≢ 10
sign_is_other true e = absurd cc
sign_is_other flag e = absurd cc

clean_signs : (flags : List Bool) → HasNoNewline (signs flags)
unfolding signs
clean_signs [] = tt
clean_signs (flag ∷ flags) = (sign_is_other flag, clean_signs flags)

abbrev AreClean : List (List ℕ) → Type 0
AreClean = AllByRecursion HasNoNewline

clean_parted : (texts : List (List ℕ)) → AreClean texts → HasNoNewline (parted texts)
unfolding parted
clean_parted [] h = tt
clean_parted (text ∷ []) h = h.0
clean_parted (text ∷ next ∷ texts) h = clean_both _ _ h.0 (λ e. absurd cc, clean_parted (next ∷ texts) h.1)

-- ---- values

clean_tag : (t : FieldTag) → HasNoNewline (tag_text t)
clean_tag tag.Void = (λ e. absurd cc, tt)
clean_tag t = (λ e. absurd cc, (λ e. absurd cc, tt))

clean_truth : (b : Bool) → HasNoNewline (truth_text b)
clean_truth true = (λ e. absurd cc, tt)
clean_truth b = (λ e. absurd cc, tt)

-- between brackets
clean_between : (before after : ℕ) (texts : List (List ℕ)) → before ≢ 10 → after ≢ 10 → AreClean texts → HasNoNewline (before ∷ (parted texts ++ after ∷ []))
clean_between before after texts h k all = (h, clean_both _ _ (clean_parted texts all) (k, tt))

mutual
  clean_content : (v : FieldValue) → HasNoNewline (content_text v)
  clean_content (boolean_value b) = clean_truth b
  clean_content (signed_value kind n) = clean_signed n
  clean_content (unsigned_value kind n) = clean_decimal n
  clean_content (decimal_value scale n) = clean_both _ _ (clean_decimal scale) (λ e. absurd cc, clean_decimal n)
  clean_content (bytes_value long_string bytes) = clean_quoted bytes
  clean_content (bytes_value byte_array bytes) = clean_hex bytes
  clean_content (array_value vs) = clean_between _ _ _ (λ e. absurd cc) (λ e. absurd cc) (clean_values vs)
  clean_content (table_value es) = clean_between _ _ _ (λ e. absurd cc) (λ e. absurd cc) (clean_entries es)
  clean_content void_value = tt

  clean_values : (vs : FieldValues) → AreClean (values_texts vs)
  clean_values no_values = tt
  clean_values (next_value v vs) = (clean_both _ _ (clean_tag (tag_of v)) (clean_content v), clean_values vs)

  clean_entries : (es : FieldEntries) → AreClean (entries_texts es)
  clean_entries no_entries = tt
  clean_entries (next_entry k v es) =
      (clean_both _ _ (clean_quoted k) (λ e. absurd cc, clean_both _ _ (clean_tag (tag_of v)) (clean_content v)), clean_entries es)

clean_table : (es : List Entry) → HasNoNewline (table_text es)
unfolding table_text
clean_table es = clean_between _ _ _ (λ e. absurd cc) (λ e. absurd cc) (clean_entries _)

-- ---- fields

clean_form : (form : Form) (items : List Item) → HasNoNewline (form_text form items)
unfolding form_text
clean_form (flags_form count) items = clean_signs (flags_of items)
clean_form (number_form width) (number_item n ∷ items) = clean_decimal n
clean_form short_string_form (text_item text ∷ items) = clean_quoted text
clean_form long_string_form (bytes_item bytes ∷ items) = clean_quoted bytes
clean_form table_form (entries_item es ∷ items) = clean_table es
clean_form form items = tt

clean_slots : (slots : List Slot) (items : List Item) → HasNoNewline (slots_text slots items)
unfolding slots_text
clean_slots [] items = tt
clean_slots (kept_slot form ∷ slots) items =
    (λ e. absurd cc, clean_both _ _ (clean_form form _) (clean_slots slots _))
clean_slots (reserved_slot form constant ∷ slots) items = clean_slots slots items

-- ---- properties

-- what holds of each name, and of none
module _ (P : List ℕ → Type 0) (nothing : P []) where
  -- What holds of each name in a table, and of the empty one, holds of the name that is looked up.
  pub each_name : (names : List (ℕ × List ℕ)) (bit : ℕ)
      → AllByRecursion (λ name. P name.1) names → P (unwrap_or (lookup (λ k. bit == k) names) [])
  each_name [] bit h = nothing
  each_name (name ∷ names) bit h = by_test (bit == name.0) h.0 (each_name names bit h.1)
    where
      by_test : (b : Bool) → P name.1 → P (unwrap_or (lookup (λ k. bit == k) names) []) → P (unwrap_or (cond b (Some name.1) (lookup (λ k. bit == k) names)) [])
      by_test true here later = here
      by_test false here later = later

-- a test of bytes that are known
abbrev other_test : ℕ → Bool
other_test byte = cond (byte == 10) false true

other_by : (byte : ℕ) → other_test byte ≡ true → byte ≢ 10
other_by byte h e = absurd (grind numbers)

clean_by : (bytes : List ℕ) → list_all other_test bytes ≡ true → HasNoNewline bytes
clean_by [] h = tt
clean_by (byte ∷ bytes) h = let both = both_true (other_test byte) _ h in (other_by byte both.0, clean_by bytes both.1)

clean_names : (names : List (ℕ × List ℕ)) → list_all (λ name. list_all other_test name.1) names ≡ true
    → AllByRecursion (λ name. HasNoNewline name.1) names
clean_names [] h = tt
clean_names (name ∷ names) h = let both = both_true _ _ h in (clean_by name.1 both.0, clean_names names both.1)

clean_name : (bit : ℕ) → HasNoNewline (property_name bit)
unfolding property_name
clean_name bit = each_name HasNoNewline tt property_names bit (clean_names property_names refl)

clean_option : (p : Property) (option : Option Item) → HasNoNewline (option_text p option)
unfolding option_text
clean_option p None = tt
clean_option p (Some item) = (λ e. absurd cc, clean_both _ _ (clean_name p.bit) (λ e. absurd cc, clean_form p.form _))

clean_set : (ps : List Property) (options : List (Option Item)) → HasNoNewline (set_text ps options)
unfolding set_text
clean_set [] options = tt
clean_set (p ∷ ps) [] = tt
clean_set (p ∷ ps) (option ∷ options) = clean_both _ _ (clean_option p option) (clean_set ps options)

-- ---- lines

clean_spaced : (n : ℕ) → HasNoNewline (spaced n)
unfolding spaced
clean_spaced n = (λ e. absurd cc, clean_decimal n)

clean_method : (m : Method) → HasNoNewline (method_words m)
unfolding method_words
clean_method m =
    clean_both _ _ (clean_spaced m.class) (λ e. absurd cc, clean_both _ _ (clean_decimal m.id) (clean_slots (unwrap_or (slots_at m.class m.id) []) m.items))

clean_header : (header : ContentHeader) → HasNoNewline (header_words header)
unfolding header_words
clean_header header = clean_both _ _ (clean_spaced header.class_id) (clean_both _ _ (clean_spaced header.body_size) (clean_set properties header.options))

beat_by : (channel : ℕ) (b : Bool) → HasNoNewline (cond b [] (spaced channel))
beat_by channel true = tt
beat_by channel false = clean_spaced channel

-- known bytes, and others after them
clean_after : (front rest : List ℕ) → list_all other_test front ≡ true → HasNoNewline rest → HasNoNewline (front ++ rest)
clean_after front rest h k = clean_both _ _ (clean_by front h) k

clean_words : (frame : Frame) → HasNoNewline (words frame)
unfolding words
clean_words (Proto major minor revision) =
    clean_after (codes "proto ") _ refl
    (clean_both _ _ (clean_decimal major) (λ e. absurd cc, clean_both _ _ (clean_decimal minor) (λ e. absurd cc, clean_decimal revision)))
clean_words (Meth channel m) = clean_after (codes "method") _ refl (clean_both _ _ (clean_spaced channel) (clean_method m))
clean_words (Head channel header) = clean_after (codes "header") _ refl (clean_both _ _ (clean_spaced channel) (clean_header header))
clean_words (Body channel content) =
    clean_after (codes "body") _ refl (clean_both _ _ (clean_spaced channel) (λ e. absurd cc, (λ e. absurd cc, clean_hex content)))
clean_words Beat = clean_by (codes "beat") refl
clean_words (BadBeat channel) = clean_after (codes "beat") _ refl (beat_by channel (channel == 0))

-- The line of a frame holds one newline, at its end.
pub one_newline : (frame : Frame) → HasOneNewline (line frame)
unfolding line
one_newline frame = record { front = words frame; parts = refl; none_before = clean_words frame }
