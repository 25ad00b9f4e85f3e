-- What calls read, step by step.
use Rattle.amqp_lines.proofs
use proofs.Names.{Bor, ◌≡◌, ℕ, zero, suc, ◌+◌, ◌-◌, ◌*◌, ◌%◌, ◌^◌, ◌<◌, ◌≤◌, List, [], ◌∷◌, ◌++◌, length, get_or, drop, map, Bool, true, false, Option, Some}
use proofs.Names.{None, Result, Ok, Err, refl, sym, ap, subst, ◌∙◌, append_assoc, append-nil, arith, take_at, drop_at, tag_at, FieldTag, NoMemory, form_of}
use proofs.Names.{property_of, slot_of, slots_of, property_name, Reader, followed, first_is, is_digit, read_digits, last_bytes, is_hex, nibble, read_hex}
use proofs.Names.{ends_at, listed, inside, or_comma, read_escaped, framed, read_item, closing, read_tagged, read_lists, read_list, read_value, read_form}
use proofs.Names.{read_slot, read_slots, strip, with_option, read_set, lengths}
use proofs.Names.slots
use Rattle.std.proofs.Common.{replicate}
use Rattle.std.proofs.lemmas.List.{length-replicate}
use Rattle.amqp_types.specs.Writing.{written}
use Rattle.amqp_canonical.specs.declared.shapes.Form.{Form}
use Rattle.amqp_canonical.specs.declared.shapes.Slot.{Slot}
use Rattle.amqp_canonical.proofs.Constants.{constant_put}
use Rattle.amqp_canonical.specs.Shapes.{has_constant}
use Rattle.amqp_lines.specs.Reading.{read_after, Finds, Reads, ReadsSet}

-- ---- either way

-- ---- one thing after another

-- What is read next, after so many characters, is appended to what was read.
pub then_read : {K : Type 0} (view : K → List ℕ) (one : List ℕ × List ℕ) (next : Reader) (skip : ℕ)
    (old : List ℕ) {mid : List ℕ} (new : List ℕ) {rest text : List ℕ} (r : Result K NoMemory)
    → (rest ≡ one.1) × (mid ≡ old ++ one.0) → text ≡ drop skip rest
    → Reads view (next text) mid new r → Reads view (followed one (λ t. next (drop skip t))) old new r
then_read view one next skip old new (Ok end) h at k =
    let later = rw (at, h.0, h.1) at k in
    (later.0, later.1 ∙ append_assoc old one.0 (next _).0)
then_read view one next skip old new (Err error) h at k = tt

-- ---- loops that read on

-- What was read stands after what was there, and what is left gives the rest of the whole.
pub record ReadsOn (whole left : List ℕ × List ℕ) (old now : List ℕ) : Type 0 where
  pub bytes : now ++ left.0 ≡ old ++ whole.0
  pub rest : left.1 ≡ whole.1

-- With one thing read and appended, what is read from the text after it gives the rest of the whole.
pub goes_on : {whole left : List ℕ × List ℕ} (one : List ℕ × List ℕ) (next : Reader) {old now mid rest : List ℕ} → ReadsOn whole left old now
    → left ≡ followed one next → (rest ≡ one.1) × (mid ≡ now ++ one.0) → ReadsOn whole (next rest) old mid
goes_on one next {now = now} {rest = rest} h is step =
    let all = rw is at h in
    record { bytes = rw (step.1, step.0) (append_assoc now one.0 (next one.1).0 ∙ all.bytes); rest = rw step.0 all.rest }

-- Where what is left reads no bytes more, the whole was read.
pub stops : {whole left : List ℕ × List ℕ} {old now end rest : List ℕ} → ReadsOn whole left old now
    → left ≡ ([], end) → rest ≡ end → (rest ≡ whole.1) × (now ≡ old ++ whole.0)
stops {now = now} h is at = let all = rw is at h in (at ∙ all.rest, cc (append-nil now, all.bytes))

-- ---- numbers

-- A number that was read, and the text after it, are found there.
pub found : (read : ℕ × List ℕ) (n : ℕ) (rest : List ℕ) → read ≡ (n, rest) → Finds read n rest
found read n rest h = rw h (refl, refl)

-- No digits are read of an empty text.
pub digits_none : (n : ℕ) (rest : List ℕ) → length rest < 1 → read_digits n rest ≡ (n, rest)
unfolding read_digits
digits_none n [] h = refl
digits_none n (c ∷ cs) h = absurd (omega arith)

-- No digits are read where the first character is none.
pub digits_end : (n : ℕ) (rest : List ℕ) → 1 ≤ length rest → is_digit (get_or rest 0 0) ≡ false → read_digits n rest ≡ (n, rest)
unfolding read_digits
digits_end n [] some h = refl
digits_end n (c ∷ cs) some h = rw h

-- Where the first character is a digit, the number so far times ten, and the digit, is read on from the text after it.
pub digits_next : (n m : ℕ) (rest next : List ℕ) → 1 ≤ length rest → is_digit (get_or rest 0 0) ≡ true
    → m ≡ (10 * n + (get_or rest 0 0 - 48)) % 2 ^ 64 → next ≡ drop 1 rest → read_digits n rest ≡ read_digits m next
unfolding read_digits
digits_next n m [] next some d is at = absurd (omega arith)
digits_next n m (c ∷ cs) next some d is at = rw (d, is, at)

-- ---- hex and strings

-- Fewer than two characters give no byte in hex.
pub hex_few : (rest : List ℕ) → length rest < 2 → read_hex rest ≡ ([], rest)
unfolding read_hex
hex_few (a ∷ b ∷ cs) h = absurd (omega arith)
hex_few rest h = refl

-- Two characters of which the first is no hex digit give no byte.
pub hex_end : (rest : List ℕ) → 2 ≤ length rest → is_hex (get_or rest 0 0) ≡ false → read_hex rest ≡ ([], rest)
unfolding read_hex
hex_end (a ∷ b ∷ cs) some h = rw h
hex_end rest some h = refl

-- Two characters, of which the first is a hex digit, give a byte, and what follows is read after them.
pub hex_next : (rest : List ℕ) → 2 ≤ length rest → is_hex (get_or rest 0 0) ≡ true
    → read_hex rest ≡ followed ((16 * nibble (get_or rest 0 0) + nibble (get_or rest 1 0)) ∷ [], drop 2 rest) read_hex
unfolding read_hex
hex_next (a ∷ b ∷ cs) some h = rw h
hex_next rest some h = absurd (omega arith)

-- A backslash and the two digits after it give the byte of the digits.
pub escape_two : (text : List ℕ) → first_is 92 text ≡ true → read_escaped text ≡ ((16 * nibble (get_or text 1 0) + nibble (get_or text 2 0)) ∷ [], drop 3 text)
unfolding read_escaped
escape_two text on = rw on

-- A character that is no backslash gives itself as a byte.
pub escape_itself : (text : List ℕ) → 1 ≤ length text → first_is 92 text ≡ false → read_escaped text ≡ (get_or text 0 0 ∷ [], drop 1 text)
unfolding read_escaped
escape_itself [] some off = absurd (omega arith)
escape_itself (c ∷ cs) some off = rw off

-- No byte is read of an empty text.
pub escape_none : (text : List ℕ) → length text < 1 → read_escaped text ≡ ([], text)
unfolding read_escaped
escape_none [] h = refl
escape_none (c ∷ cs) h = absurd (omega arith)

-- ---- things up to a closing character

-- A list ends at its closing character, which is passed, or at the end of the text.
pub listed_over : (item : Reader) (close left : ℕ) (text : List ℕ) → ends_at close text ≡ true → listed item close left text ≡ ([], drop 1 text)
unfolding listed
listed_over item close zero text h = refl
listed_over item close (suc left) text h = rw h

-- A list ends where no more of it may be read, and one character is passed.
pub listed_none : (item : Reader) (close left : ℕ) (text : List ℕ) → left ≡ 0 → listed item close left text ≡ ([], drop 1 text)
unfolding listed
listed_none item close zero text h = refl
listed_none item close (suc left) text h = absurd (omega arith)

-- Before the end of a list, one thing of it is read, and then the rest, with one less to read.
pub listed_next : (item : Reader) (close left : ℕ) {less : ℕ} (text : List ℕ) → 0 < left → less ≡ left - 1
    → ends_at close text ≡ false → listed item close left text ≡ followed (item text) (listed item close less)
unfolding listed
listed_next item close zero text some is off = absurd (omega arith)
listed_next item close (suc left) {less = less} text some is off = let same : less ≡ left = omega (arith, is) in rw (off, same)

-- Inside of brackets a list is read from after the opening one, at most as many things as the text is long.
pub inside_begins : (item : Reader) (close left : ℕ) (text rest old : List ℕ) → left ≡ length text
    → rest ≡ drop 1 text → ReadsOn (inside item close text) (listed item close left rest) old old
unfolding inside
inside_begins item close left text rest old is at = rw (is, at) (record { bytes = refl; rest = refl })

-- ---- lengths

put_at : (before zeros content new bytes : List ℕ) (place : ℕ) → place ≡ length before → length zeros ≡ length bytes
    → new ≡ written (before ++ (zeros ++ content)) place bytes → new ≡ before ++ (bytes ++ content)
unfolding written
put_at before zeros content new bytes place at size h =
    let tail =
    ap (drop (place + length bytes)) (sym (append_assoc before zeros content))
    ∙ drop_at _ content (place + length bytes) (omega lengths) in
    cc (h, take_at before (zeros ++ content) place (sym at), tail)

-- so many bytes of a number are as many
last_count : (count n : ℕ) → count ≤ 8 → length (last_bytes count n) ≡ count
last_count (suc (suc (suc (suc (suc (suc (suc (suc (suc count))))))))) n h = absurd (omega (arith, h))
last_count count n h = refl

-- so many bytes of a number are written in the place of those that were kept in front of what was read
kept_put : (width place n : ℕ) (old a b content new : List ℕ) → width ≤ 8 → place ≡ length old → a ≡ old ++ replicate width 0
    → b ≡ a ++ content → new ≡ written b place (last_bytes width n) → new ≡ old ++ (last_bytes width n ++ content)
kept_put width place n old a b content new few at zeros read put =
    put_at old (replicate width 0) content new (last_bytes width n) place at (length-replicate width zero ∙ sym (last_count width n few))
    (rw (read, zeros, append_assoc) at put)

-- Bytes that are read into a buffer after room for their length are read with their length in front, once this is written there.
pub framed_read : (width place : ℕ) (read : List ℕ × List ℕ) (old a b new rest : List ℕ) → width ≤ 8 → place ≡ length old
    → a ≡ old ++ replicate width 0 → (rest ≡ read.1) × (b ≡ a ++ read.0) → new ≡ written b place (last_bytes width (length b - (place + width)))
    → (rest ≡ (framed width read).1) × (new ≡ old ++ (framed width read).0)
framed_read width place read old a b new rest few at zeros h put =
    let size : length b - (place + width) ≡ length read.0 =
    omega (lengths, at, ap length h.1, ap length zeros, length-replicate width zero) in
    (h.0, kept_put width place _ old a b read.0 new few at zeros h.1 (rw size at put))

-- Properties that are read into a buffer after room for their mask are read with their mask in front, once this is written there.
pub properties_read : (place n : ℕ) (set : ℕ × (List ℕ × List ℕ)) (old a b new rest : List ℕ)
    → place ≡ length old → a ≡ old ++ replicate 2 0 → (n ≡ set.0) × (rest ≡ set.1.1) × (b ≡ a ++ set.1.0)
    → new ≡ written b place (last_bytes 2 n) → (rest ≡ set.1.1) × (new ≡ old ++ (last_bytes 2 set.0 ++ set.1.0))
properties_read place n set old a b new rest at zeros h put =
    (h.1, kept_put 2 place set.0 old a b set.1.0 new (omega arith) at zeros h.2 (rw h.0 at put))

-- ---- values

-- No value is read of an empty text.
pub value_none : (room : ℕ) (text : List ℕ) → length text < 1 → read_value room text ≡ ([], text)
unfolding read_value read_tagged
value_none room [] h = refl
value_none room (c ∷ cs) h = absurd (omega arith)

value_at : (room : ℕ) (text : List ℕ) → 1 ≤ length text
    → read_value room text ≡ followed (get_or text 0 0 ∷ [], drop 1 text) (read_after (read_lists room) (tag_at (get_or text 0 0)))
unfolding read_value read_tagged
value_at room [] some = absurd (omega arith)
value_at room (c ∷ cs) some = refl

-- a letter that is not a tag
pub value_alone : (room : ℕ) (text old mid next : List ℕ) → 1 ≤ length text → tag_at (get_or text 0 0) ≡ None
    → mid ≡ old ++ get_or text 0 0 ∷ [] → next ≡ drop 1 text → (next ≡ (read_value room text).1) × (mid ≡ old ++ (read_value room text).0)
value_alone room text old mid next some is pushed at = rw (value_at room text some, is) (at, pushed)

-- A tag and what is read after it are read as a value.
pub value_read : {K : Type 0} (view : K → List ℕ) (room : ℕ) (text old mid new next : List ℕ) (o : Option FieldTag) (r : Result K NoMemory)
    → 1 ≤ length text → tag_at (get_or text 0 0) ≡ o → mid ≡ old ++ get_or text 0 0 ∷ [] → next ≡ drop 1 text
    → Reads view (read_after (read_lists room) o next) mid new r → Reads view (read_value room text) old new r
value_read view room text old mid new next o r some is pushed at h =
    rw (value_at room text some, is)
    (then_read view (get_or text 0 0 ∷ [], drop 1 text) (read_after (read_lists room) o) 0 old new r (refl, pushed) at h)

-- Where no room for nesting is left, no list is read.
pub lists_none : {room : ℕ} (keyed : Bool) {text : List ℕ} → room ≡ 0 → read_lists room keyed text ≡ ([], text)
unfolding read_lists
lists_none {room = zero} keyed h = refl
lists_none {room = suc room} keyed h = absurd (omega arith)

-- Where there is room for nesting, a list in brackets is read, with its length in four bytes in front.
pub lists_some : (room : ℕ) (keyed : Bool) (text : List ℕ) → 0 < room
    → read_lists room keyed text ≡ framed 4 (inside (or_comma (read_item (read_value (room - 1)) keyed)) (closing keyed) text)
unfolding read_lists read_list read_value
lists_some zero keyed text h = absurd (omega arith)
lists_some (suc room) keyed text h = let same : suc room - 1 ≡ room = omega arith in rw same

-- Where no comma comes, the next thing is read.
pub no_comma : (item : Reader) (text : List ℕ) → first_is 44 text ≡ false → or_comma item text ≡ item text
unfolding or_comma
no_comma item text off = rw off

-- ---- fields

-- A reserved field is read as its constant, and takes nothing of the text.
pub constant_read : (slot : Slot) (form : Form) (constant : Bor (List ℕ)) (rest old new : List ℕ) → slot ≡ slots.Reserved form constant
    → has_constant slot ≡ true → new ≡ old ++ constant.now → (rest ≡ (read_slot (slot_of slot) rest).1) × (new ≡ old ++ (read_slot (slot_of slot) rest).0)
unfolding read_slot
constant_read slot form constant rest old new is there h =
    let P : Slot → Type 0 = λ s. has_constant s ≡ true → (rest ≡ (read_slot (slot_of s) rest).1) × (new ≡ old ++ (read_slot (slot_of s) rest).0) in
    subst P (sym is) (λ has. (refl, cc (h, constant_put (form_of form) constant.now has))) there

-- A kept field is read as its form is, after the space in front of it.
pub kept_is : {slot : Slot} (form : Form) (text : List ℕ) {next : List ℕ} → slot ≡ slots.Kept form
    → next ≡ drop 1 text → read_slot (slot_of slot) text ≡ read_form (form_of form) next
unfolding read_slot
kept_is form text is at = rw (is, at)

-- No fields are read where there are no more.
pub slots_none : (shapes : List Slot) {text : List ℕ} → length shapes < 1 → read_slots (slots_of shapes) text ≡ ([], text)
unfolding read_slots
slots_none [] h = refl
slots_none (shape ∷ shapes) h = absurd (omega arith)

-- Where fields are left, the first one is read, and then the others.
pub slots_some : (shapes : List Slot) (none : Slot) (text : List ℕ) → 1 ≤ length shapes
    → read_slots (slots_of shapes) text ≡ followed (read_slot (slot_of (get_or shapes 0 none)) text) (read_slots (slots_of (drop 1 shapes)))
unfolding read_slots
slots_some [] none text some = absurd (omega arith)
slots_some (shape ∷ shapes) none text some = refl

-- ---- properties

-- Twice a bit of two bytes is the next higher bit, or 0 after the highest.
pub bit_next : (bit below : ℕ) → 0 < bit → below ≡ 2 ^ (bit - 1) % 2 ^ 16 → below * 2 % 2 ^ 16 ≡ 2 ^ bit % 2 ^ 16
bit_next zero below some h = absurd (omega arith)
bit_next (suc n) below some h =
    let two : 2 ^ suc n ≡ 2 * 2 ^ n = grind arith in
    let is = h ∙ ap (λ k. 2 ^ k % 2 ^ 16) {x = suc n - 1} {y = n} (omega arith) in
    omega (arith, two, is)

-- No properties are read where there are no more.
pub set_none : (shapes : List (ℕ × Form)) {text old : List ℕ} → length shapes < 1
    → (let all = read_set (map property_of shapes) text in (0 ≡ all.0) × (text ≡ all.1.1) × (old ≡ old ++ all.1.0))
unfolding read_set
set_none [] {old = old} h = (refl, refl, sym (append-nil old))
set_none (shape ∷ shapes) h = absurd (omega arith)

set_at : (shapes : List (ℕ × Form)) (none : ℕ × Form) (text next name : List ℕ)
    → (let shape = get_or shapes 0 none in
    1 ≤ length shapes → next ≡ drop 1 text → name ≡ property_name shape.0
    → read_set (map property_of shapes) text ≡ with_option (property_of shape) (read_set (map property_of (drop 1 shapes))) text (strip name next))
unfolding read_set
set_at [] none text next name some at is = absurd (omega arith)
set_at (shape ∷ shapes) none text next name some at is = rw (at, is)

module _ (shapes : List (ℕ × Form)) (none : ℕ × Form) (text next name : List ℕ)
    (some : 1 ≤ length shapes) (at : next ≡ drop 1 text) (is : name ≡ property_name (get_or shapes 0 none).0) where
  -- no property of this name
  pub set_other : {K : Type 0} (view : K → List ℕ) (old new : List ℕ) (r : Result (ℕ × K) NoMemory) → strip name next ≡ None
      → ReadsSet view (read_set (map property_of (drop 1 shapes)) text) old new r → ReadsSet view (read_set (map property_of shapes) text) old new r
  set_other view old new r absent h = rw (set_at shapes none text next name some at is, absent) h

  -- a property, and the others
  pub set_read : (after start rest end old mid new : List ℕ) (bit mask sum : ℕ)
      → (let x = read_form (form_of (get_or shapes 0 none).1) start in let others = read_set (map property_of (drop 1 shapes)) rest in
      strip name next ≡ Some after → start ≡ drop 1 after
      → (rest ≡ x.1) × (mid ≡ old ++ x.0) → (mask ≡ others.0) × (end ≡ others.1.1) × (new ≡ mid ++ others.1.0)
      → bit ≡ 2 ^ (get_or shapes 0 none).0 % 2 ^ 16 → sum ≡ (bit + mask) % 2 ^ 16
      → (let all = read_set (map property_of shapes) text in (sum ≡ all.0) × (end ≡ all.1.1) × (new ≡ old ++ all.1.0)))
  set_read after start rest end old mid new bit mask sum found from first others worth total =
      let here = rw from at first in
      let later = rw here.0 at others in
      rw (set_at shapes none text next name some at is, found)
      (rw (total, worth, later.0), later.1, rw (later.2, here.1) (append_assoc old (read_form (form_of (get_or shapes 0 none).1) (drop 1 after)).0 _))
