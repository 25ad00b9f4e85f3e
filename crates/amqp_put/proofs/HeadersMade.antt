-- Content headers that are made of put calls.
use Rattle.std.proofs.Common.{◌≡◌, ℕ, suc, pred, ◌+◌, ◌^◌, ◌<◌, ◌≤◌, List, [], ◌∷◌, ◌++◌, length, Option, Some, None, Ok, refl, ap, subst, sym, ◌∙◌, arith}
use Rattle.std.proofs.lemmas.Bool.{le-ltb}
use Rattle.std.proofs.lemmas.List.{length-append}
use Rattle.amqp_types.specs.Numbers.{bytes1, bytes2, bytes8, number_bytes}
use Rattle.amqp_types.specs.Writing.{Puts}
use Rattle.amqp_types.specs.Slots.{Item, Form, number_form, short_string_form, table_form}
use Rattle.amqp_types.specs.SlotBytes.{slots_bytes, form_bytes}
use Rattle.amqp_types.specs.Properties.{Property, properties, later_properties}
use Rattle.amqp_types.specs.PropertyBytes.{properties_bytes, set_bytes, mask_of}
use Rattle.amqp_types.specs.ContentHeaders.{header_slots, content_header_bytes}
use Rattle.amqp_types.proofs.Puts.{puts_then, puts-length}
use Rattle.amqp_wire.specs.Spelling.{framed}
use Rattle.amqp_wire.specs.Canonical.{canon}
use Rattle.amqp_wire.specs.Frames.{Head}
use Rattle.amqp_wire.proofs.Sizes.{framed_length}
use Rattle.amqp_entries.specs.Flaws.{first_of}
use Rattle.amqp_put.specs.Headers.{header_with}
use Rattle.amqp_put.specs.Made.{size_flaw, MakesBytes}
use Rattle.amqp_put.specs.MadeFrames.{MakesFrame}
use Rattle.amqp_put.specs.Properties.{from_bit, size_after}
use Rattle.amqp_entries.specs.declared.errors.PutError.{PutError}
use Rattle.amqp_put.proofs.Masks.{mask_below}

-- ---- a payload that was measured

pub record IsCounted (k : ℕ) (flaw : Option PutError) (bytes : List ℕ) (n : ℕ) : Type 0 where
  pub none : flaw ≡ None
  pub is : n ≡ k + length bytes

counted : (k : ℕ) (flaw : Option PutError) (bytes : List ℕ) (n : ℕ) → Ok n ≡ size_after k flaw bytes → IsCounted k flaw bytes n
counted k None bytes n e = record { none = refl; is = cc }
counted k (Some refusal) bytes n e = absurd cc

first_none : (flaw after : Option PutError) → flaw ≡ None → first_of flaw after ≡ after
first_none flaw after e = ap (λ (o : Option PutError). first_of o after) e

fits : (k : ℕ) (flaw : Option PutError) (bytes : List ℕ) (n size max room : ℕ) → Ok n ≡ size_after k flaw bytes → size ≡ k + length bytes → n ≤ max
    → n + 8 ≤ room → first_of flaw (size_flaw size max room) ≡ None
fits k flaw bytes n size max room e len within enough =
    let m = counted k flaw bytes n e in
    let small = le-ltb max size (omega (arith, m.is, len, within)) in
    let some = le-ltb room (size + 8) (omega (arith, m.is, len, enough)) in
    first_none flaw (size_flaw size max room) m.none ∙ (rw (small, some) refl)

-- a payload that was put, and the frame around it
pub framed_made : (k : ℕ) (out new payload : List ℕ) (final type channel max n : ℕ) (flaw : Option PutError) (bytes : List ℕ)
    → Ok n ≡ size_after k flaw bytes → length payload ≡ k + length bytes → n ≤ max → n + 8 ≤ length out
    → (0 + length (framed type channel payload) ≤ length out → Puts out new 0 (framed type channel payload) final)
    → MakesBytes out new (first_of flaw (size_flaw (length payload) max (length out))) (framed type channel payload) (Ok final)
framed_made k out new payload final type channel max n flaw bytes e len within enough around =
    let m = counted k flaw bytes n e in
    let made = around (omega (arith, framed_length type channel payload, len, m.is, enough)) in
    (fits k flaw bytes n (length payload) max (length out) e len within enough, made.behind ∙ omega arith, made.put)

-- ---- content headers

-- class, weight and body size
abbrev pub front_bytes : ℕ → ℕ → List ℕ
front_bytes class body_size = number_bytes bytes2 class ++ (number_bytes bytes2 0 ++ (number_bytes bytes8 body_size ++ []))

payload_by : (ps : List Property) (class body_size mask : ℕ) (options : List (Option Item)) (bytes : List ℕ) → ps ≡ properties → set_bytes ps options ≡ bytes
    → mask ≡ mask_of ps options
    → content_header_bytes (header_with class body_size options) ≡ front_bytes class body_size ++ (number_bytes bytes2 mask ++ bytes)
unfolding content_header_bytes properties_bytes slots_bytes form_bytes header_slots
payload_by ps class body_size mask options bytes all spells is =
    ap (λ (qs : List Property). front_bytes class body_size ++ (number_bytes bytes2 (mask_of qs options) ++ set_bytes qs options)) (sym all)
    ∙ ap (λ (bs : List ℕ). front_bytes class body_size ++ (number_bytes bytes2 (mask_of ps options) ++ bs)) spells
    ∙ ap (λ (n : ℕ). front_bytes class body_size ++ (number_bytes bytes2 n ++ bytes)) (sym is)

-- how many bytes the payload of a content header has
pub header_length : (class body_size : ℕ) (forms : List Form) (options : List (Option Item)) (bytes : List ℕ) → from_bit 15 forms ≡ properties
    → set_bytes (from_bit 15 forms) options ≡ bytes
    → length (content_header_bytes (header_with class body_size options)) ≡ 14 + length bytes
header_length class body_size forms options bytes all spells =
    ap length (payload_by (from_bit 15 forms) class body_size (mask_of (from_bit 15 forms) options) options bytes all spells refl)
    ∙ omega (
      arith,
      length-append (front_bytes class body_size) (number_bytes bytes2 (mask_of (from_bit 15 forms) options) ++ bytes),
      length-append
          (number_bytes bytes2 (mask_of (from_bit 15 forms) options)) bytes,
    )

-- the forms of all properties
abbrev standard_forms : List Form
standard_forms =
    short_string_form ∷ short_string_form ∷ table_form ∷ number_form bytes1 ∷ number_form bytes1 ∷ short_string_form ∷ short_string_form ∷
    short_string_form ∷ short_string_form ∷ number_form bytes8 ∷ short_string_form ∷ short_string_form ∷ short_string_form ∷ short_string_form ∷
    []

standard : properties ≡ from_bit 15 standard_forms
unfolding properties later_properties
standard = refl

count_from : (bit : ℕ) (forms : List Form) → length (from_bit bit forms) ≡ length forms
count_from bit [] = refl
count_from bit (form ∷ forms) = ap suc (count_from (pred bit) forms)

-- the forms of all properties are 14
pub forms_count : (forms : List Form) → from_bit 15 forms ≡ properties → length forms ≡ 14
forms_count forms all = sym (count_from 15 forms) ∙ ap length (all ∙ standard)

-- two bytes hold the mask
pub mask_fits : (mask : ℕ) (options : List (Option Item)) → mask ≡ mask_of properties options → mask < 2 ^ 16
mask_fits mask options is = omega (arith, mask_below 15 standard_forms options (omega arith), is ∙ ap (λ (ps : List Property). mask_of ps options) standard)

-- the front, the mask and the properties, put one after another, and the frame around them
pub header_made : (out a b d new : List ℕ) (p q end final channel class body_size mask max n : ℕ) (flaw : Option PutError) (forms : List Form)
    (options : List (Option Item)) (bytes : List ℕ)
    → Ok n ≡ size_after 14 flaw bytes → from_bit 15 forms ≡ properties → set_bytes (from_bit 15 forms) options ≡ bytes → mask ≡ mask_of properties options
    → n ≤ max → n + 8 ≤ length out
    → Puts out a 7 (front_bytes class body_size) p → Puts a b p (number_bytes bytes2 mask) q → Puts b d q bytes end
    → ((before payload : List ℕ) → Puts before d 7 payload end → 0 + length (framed 2 channel payload) ≤ length before
    → Puts before new 0 (framed 2 channel payload) final)
    → MakesFrame out new max (Head channel (header_with class body_size options)) flaw (Ok final)
unfolding canon
header_made out a b d new p q end final channel class body_size mask max n flaw forms options bytes e all spells is within enough first second third around =
    let m = counted 14 flaw bytes n e in
    let payload = content_header_bytes (header_with class body_size options) in
    let len : length payload ≡ 14 + length bytes = header_length class body_size forms options bytes all spells in
    let rest : List ℕ = number_bytes bytes2 mask ++ bytes in
    let kept : length a ≡ length out = puts-length out a 7 p (front_bytes class body_size) (omega (arith, enough)) first in
    let behind : Puts a d p rest end = puts_then a b d p q end (number_bytes bytes2 mask) bytes
    (omega (arith, kept, m.is, enough, first.behind, length-append (number_bytes bytes2 mask) bytes)) second third in
    let whole : Puts out d 7 (front_bytes class body_size ++ rest) end =
    puts_then out a d 7 p end (front_bytes class body_size) rest
    (omega (arith, m.is, enough, length-append (front_bytes class body_size) rest, length-append (number_bytes bytes2 mask) bytes)) first behind in
    let P : List ℕ → Type 0 = λ bs. Puts out d 7 bs end in
    let inner : Puts out d 7 payload end = subst P (sym
    (payload_by (from_bit 15 forms) class body_size mask options bytes all spells (is ∙ ap (λ (ps : List Property). mask_of ps options) (sym all)))) whole in
    framed_made 14 out new payload final 2 channel max n flaw bytes e len within enough (around out payload inner)
