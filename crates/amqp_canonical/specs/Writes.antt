-- What is written in place of bytes that were decoded.
use Rattle.std.specs.Prelude.{◌≡◌, ◌≤◌, ◌<◌, ℕ, ◌+◌, ◌^◌, Bool, true, List, [], ◌∷◌, ◌++◌}
use Rattle.std.specs.Prelude.{length, take, drop, Result, Ok, Err}
use Rattle.amqp_types.specs.Judging.{Judged, Fault, took, past, fault}
use Rattle.amqp_types.specs.Strings.{short_string_bytes}
use Rattle.amqp_types.specs.Slots.{Item, Slot, kept_slot, reserved_slot}
use Rattle.amqp_types.specs.SlotBytes.{form_bytes}
use Rattle.amqp_types.specs.Values.{FieldValue, Entry, values_of, entries_of}
use Rattle.amqp_types.specs.ValueBytes.{values_bytes, entries_bytes, tagged_bytes}
use Rattle.amqp_types.specs.Writing.{written}

-- something was taken
abbrev pub IsRead : {A : Type 0} → Judged A → Type 0
IsRead (took x n) = Unit {0}
IsRead past = ⊥
IsRead (fault bad) = ⊥

-- the canonical bytes of what was taken
abbrev pub canonical_of : {A : Type 0} → (A → List ℕ) → Judged A → List ℕ
canonical_of canonical (took x n) = canonical x
canonical_of canonical past = []
canonical_of canonical (fault bad) = []

-- the first n bytes are the canonical bytes of what was taken
pub record IsCopied {A : Type 0} (canonical : A → List ℕ)
    (bytes : List ℕ) (n : ℕ) (j : Judged A) : Type 0 where
  pub within : n ≤ length bytes
  pub bytes_are : take n bytes ≡ canonical_of canonical j

-- places up to an end can be counted, and there is room for them where that is sure
pub record HasRoom (sure : Bool) (end length : ℕ) : Type 0 where
  pub few : end < 2 ^ 64
  pub room : sure ≡ true → end ≤ length

-- there is room for bytes at a place, where that is sure
abbrev pub HasRoomFor : Bool → List ℕ → ℕ → List ℕ → Type 0
HasRoomFor sure buf at bytes = HasRoom sure (at + length bytes) (length buf)

-- A put call puts the bytes at a place where there is room for them, and returns the place after
-- them in any case.
pub record PutsIfRoom (old new : List ℕ) (at : ℕ) (bytes : List ℕ) (result : ℕ) : Type 0 where
  pub put : at + length bytes ≤ length old → new ≡ written old at bytes
  pub behind : result ≡ at + length bytes
  pub same : length new ≡ length old

-- the bytes are items, one after another
abbrev pub IsFilled : {A : Type 0} → Result (List A) Fault → Type 0
IsFilled (Ok xs) = Unit {0}
IsFilled (Err bad) = ⊥

-- these items
abbrev pub items_of : {A : Type 0} → Result (List A) Fault → List A
items_of (Ok xs) = xs
items_of (Err bad) = []

-- the canonical bytes of a key and its value
abbrev pub entry_bytes : Entry → List ℕ
entry_bytes e = short_string_bytes e.0 ++ tagged_bytes e.1

-- of the values of an array
abbrev pub array_content : List FieldValue → List ℕ
array_content vs = values_bytes (values_of vs)

-- of the entries of a table
abbrev pub table_content : List Entry → List ℕ
table_content es = entries_bytes (entries_of es)

-- the canonical bytes of a field that gives these items
abbrev pub slot_bytes : Slot → List Item → List ℕ
slot_bytes (kept_slot form) items = form_bytes form items
slot_bytes (reserved_slot form constant) items = form_bytes form constant

-- ---- what stands at the front of an entry

-- the text of the short string at the front
abbrev pub key_in : List ℕ → List ℕ
key_in [] = []
key_in (n ∷ bytes) = take n bytes

-- what stands after it
abbrev pub after_key : List ℕ → List ℕ
after_key [] = []
after_key (n ∷ bytes) = drop n bytes
