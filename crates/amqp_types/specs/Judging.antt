-- Reading from the left out of one input, payload, table or array: what is taken and how many bytes
-- it uses, or the first thing that cannot be read.
use Rattle.std.specs.Prelude.{◌≡◌, ℕ, ◌<◌, ◌≤◌, List, ◌++◌, length, take, slice_index}

-- why bytes are refused, whatever follows them
pub data Fault : Type 0 where
  unknown_frame_type : Fault
  bad_protocol_header : Fault
  too_large : Fault
  bad_frame_end : Fault
  unknown_class : Fault
  unknown_method : Fault
  short_payload : Fault
  trailing_bytes : Fault
  not_utf8 : Fault
  unknown_tag : Fault
  too_deep : Fault
  not_tidy : Fault

-- took: this, in so many bytes. past: incomplete, as the input, payload, table or array ends inside
-- what is decoded. fault: refused, whatever follows
pub data Judged (A : Type 0) : Type 0 where
  took : A → ℕ → Judged A
  past : Judged A
  fault : Fault → Judged A

-- decoding from the front of some bytes, of which it need not use all
abbrev pub Judge : Type 0 → Type 0
Judge A = List ℕ → Judged A

-- what follows goes on from what was taken and how many bytes it used
infixl 10 ◌>>=◌
-- what is incomplete stays so, and the first fault is the one that is reported
abbrev pub ◌>>=◌ : {A B : Type 0} → Judged A → (A × ℕ → Judged B) → Judged B
(took x n) >>= f = f (x, n)
past >>= f = past
(fault bad) >>= f = fault bad

-- each number is a byte
abbrev pub IsBytes : List ℕ → Type 0
IsBytes bytes = (i : ℕ) → slice_index bytes i < 256

-- Decoding takes exactly what is encoded: what it takes is encoded by the bytes that it uses, and
-- what is encoded it takes, whatever follows.
pub record IsExact {A : Type 0} (judge : Judge A) (Spells : List ℕ → A → Type 0) : Type 0 where
  pub spelled : (bytes : List ℕ) (x : A) (n : ℕ) → IsBytes bytes
      → judge bytes ≡ took x n → Spells (take n bytes) x × (n ≤ length bytes)
  pub taken : (bytes rest : List ℕ) (x : A) → Spells bytes x
      → judge (bytes ++ rest) ≡ took x (length bytes)
