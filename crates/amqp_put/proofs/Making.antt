-- Frames that are made of put calls.
use Rattle.std.proofs.Common.{◌≡◌, ℕ, ◌+◌, ◌<◌, ◌≤◌, List, [], ◌++◌, length, Option, Some, None, unwrap_or, Ok, refl, ap, subst, sym, ◌∙◌, arith}
use Rattle.std.proofs.lemmas.Bool.{le-ltb, lt-ltb}
use Rattle.std.proofs.lemmas.List.{length-append}
use Rattle.amqp_types.specs.Numbers.{bytes2, number_bytes}
use Rattle.amqp_types.specs.Writing.{Puts}
use Rattle.amqp_types.specs.Slots.{Item, Slot}
use Rattle.amqp_types.specs.SlotBytes.{slots_bytes}
use Rattle.amqp_types.specs.Rows.{slots_at}
use Rattle.amqp_types.specs.Methods.{method, method_bytes, payload_bytes}
use Rattle.amqp_types.proofs.Puts.{puts_then, puts-length}
use Rattle.amqp_wire.specs.Spelling.{framed}
use Rattle.amqp_wire.specs.Canonical.{canon}
use Rattle.amqp_wire.proofs.Sizes.{framed_length}
use Rattle.amqp_entries.specs.Flaws.{first_of, size_or}
use Rattle.amqp_put.specs.Made.{size_flaw, MakesMethod}
use Rattle.amqp_entries.specs.declared.errors.PutError.{PutError}
use Rattle.amqp_entries.specs.declared.errors.PutError.TheVariants as errors

-- both ids, and the bytes of the fields
pub payload_is : (class id : ℕ) (slots : List Slot) (items : List Item) (bytes : List ℕ) → slots_at class id ≡ Some slots → slots_bytes slots items ≡ bytes
    → payload_bytes (method class id items) ≡ number_bytes bytes2 class ++ (number_bytes bytes2 id ++ bytes)
unfolding payload_bytes method_bytes
payload_is class id slots items bytes at is =
    ap (λ (o : Option (List Slot)). number_bytes bytes2 class ++ (number_bytes bytes2 id ++ slots_bytes (unwrap_or o []) items)) at
    ∙ ap (λ (bs : List ℕ). number_bytes bytes2 class ++ (number_bytes bytes2 id ++ bs)) is

-- how many bytes the payload of a method has
pub payload_length : (class id : ℕ) (slots : List Slot) (items : List Item) (bytes : List ℕ) → slots_at class id ≡ Some slots → slots_bytes slots items ≡ bytes
    → length (payload_bytes (method class id items)) ≡ 4 + length bytes
payload_length class id slots items bytes at is =
    ap length (payload_is class id slots items bytes at is)
    ∙ omega (arith, length-append (number_bytes bytes2 class) (number_bytes bytes2 id ++ bytes), length-append (number_bytes bytes2 id) bytes)

-- what was measured
pub record IsMeasured (flaw : Option PutError) (bytes : List ℕ) (n : ℕ) : Type 0 where
  pub none : flaw ≡ None
  pub is : n ≡ length bytes

-- fields that have a size have no flaw, and the size is that of their bytes
pub measured : (flaw : Option PutError) (bytes : List ℕ) (n : ℕ) → Ok n ≡ size_or flaw bytes → IsMeasured flaw bytes n
measured None bytes n e = record { none = refl; is = cc }
measured (Some refusal) bytes n e = absurd cc

first_none : (flaw after : Option PutError) → flaw ≡ None → first_of flaw after ≡ after
first_none flaw after e = ap (λ (o : Option PutError). first_of o after) e

-- a payload above the limit is refused as too large
pub too_large : (flaw : Option PutError) (bytes : List ℕ) (n size max room : ℕ) → Ok n ≡ size_or flaw bytes → size ≡ 4 + length bytes → max < 4 + n
    → first_of flaw (size_flaw size max room) ≡ Some errors.TooLarge
too_large flaw bytes n size max room e len above =
    let m = measured flaw bytes n e in
    let large = lt-ltb max size (omega (arith, m.is, len, above)) in
    first_none flaw (size_flaw size max room) m.none ∙ rw large refl

-- a frame that has no room is refused with its length
pub no_room : (flaw : Option PutError) (bytes : List ℕ) (n size max room : ℕ) → Ok n ≡ size_or flaw bytes → size ≡ 4 + length bytes → 4 + n ≤ max
    → room < 4 + n + 8 → first_of flaw (size_flaw size max room) ≡ Some (errors.BufferTooSmall (4 + n + 8))
no_room flaw bytes n size max room e len within above =
    let m = measured flaw bytes n e in
    let small = le-ltb max size (omega (arith, m.is, len, within)) in
    let many : size + 8 ≡ 4 + n + 8 = omega (arith, m.is, len) in
    let none = lt-ltb room (size + 8) (omega (arith, many, above)) in
    first_none flaw (size_flaw size max room) m.none ∙ (rw (small, none) (ap (λ (k : ℕ). Some (errors.BufferTooSmall k)) many))

pub has_room : (flaw : Option PutError) (bytes : List ℕ) (n size max room : ℕ) → Ok n ≡ size_or flaw bytes → size ≡ 4 + length bytes → 4 + n ≤ max
    → 4 + n + 8 ≤ room → first_of flaw (size_flaw size max room) ≡ None
has_room flaw bytes n size max room e len within enough =
    let m = measured flaw bytes n e in
    let small = le-ltb max size (omega (arith, m.is, len, within)) in
    let some = le-ltb room (size + 8) (omega (arith, m.is, len, enough)) in
    first_none flaw (size_flaw size max room) m.none ∙ (rw (small, some) refl)

-- both ids and the fields, put one after another, and the frame around them
pub frame_made : (out a b d new : List ℕ) (p q end final channel class id max n : ℕ) (flaw : Option PutError) (slots : List Slot) (items : List Item)
    (bytes : List ℕ)
    → Ok n ≡ size_or flaw bytes → slots_at class id ≡ Some slots → slots_bytes slots items ≡ bytes → 4 + n ≤ max → 4 + n + 8 ≤ length out
    → Puts out a 7 (number_bytes bytes2 class) p → Puts a b p (number_bytes bytes2 id) q → Puts b d q bytes end
    → ((before payload : List ℕ) → Puts before d 7 payload end → 0 + length (framed 1 channel payload) ≤ length before
    → Puts before new 0 (framed 1 channel payload) final)
    → MakesMethod out new channel max (method class id items) flaw (Ok final)
unfolding canon
frame_made out a b d new p q end final channel class id max n flaw slots items bytes e at is within enough first second third around =
    let m = measured flaw bytes n e in
    let payload = payload_bytes (method class id items) in
    let len : length payload ≡ 4 + length bytes = payload_length class id slots items bytes at is in
    let kept : length a ≡ length out = puts-length out a 7 p (number_bytes bytes2 class) (omega (arith, enough)) first in
    let behind : Puts a d p (number_bytes bytes2 id ++ bytes) end =
    puts_then a b d p q end (number_bytes bytes2 id) bytes (omega (arith, kept, m.is, enough, first.behind, length-append (number_bytes bytes2 id) bytes))
    second third in
    let whole : Puts out d 7 (number_bytes bytes2 class ++ (number_bytes bytes2 id ++ bytes)) end =
    puts_then out a d 7 p end (number_bytes bytes2 class) (number_bytes bytes2 id ++ bytes)
    (omega (arith, m.is, enough, length-append (number_bytes bytes2 class) (number_bytes bytes2 id ++ bytes), length-append (number_bytes bytes2 id) bytes))
    first behind in
    let P : List ℕ → Type 0 = λ bs. Puts out d 7 bs end in
    let inner : Puts out d 7 payload end = subst P (sym (payload_is class id slots items bytes at is)) whole in
    let made = around out payload inner (omega (arith, framed_length 1 channel payload, len, m.is, enough)) in
    (has_room flaw bytes n (length payload) max (length out) e len within enough, made.behind ∙ omega arith, made.put)
