-- The two ends of a stream: what a source and a sink report of themselves.
use Rattle.std.specs.Prelude.{◌≡◌, ℕ, ◌+◌, ◌-◌, ◌^◌, ◌<◌, ◌≤◌, min, max, List, [], ◌++◌, length}
use Rattle.std.specs.Prelude.{take, Option, Some, None, Result, Ok, Err}
use Rattle.std.specs.Io.KnownBytes.{Consumes}

-- the last value of a count, at which it stays
abbrev pub last : ℕ
last = 2 ^ 64 - 1

-- a count after n more; it stays at its last value
abbrev pub counted : ℕ → Option ℕ → Option ℕ
counted n None = None
counted n (Some k) = Some (max k (min (k + n) last))

-- the count of faults rose, or stands at its last value
abbrev pub Rises : ℕ → ℕ → Type 0
Rises old new = old < last → old < new

-- A source: the bytes that are left and the number of reads so far, each where it is reported, and
-- a count of faults.
pub record Supply : Type 0 where
  pub left : Option (List ℕ)
  pub reads : Option ℕ
  pub faults : ℕ

-- what is left, with a piece in front
abbrev pub prepended : List ℕ → Option (List ℕ) → Option (List ℕ)
prepended piece None = None
prepended piece (Some rest) = Some (piece ++ rest)

-- These bytes were taken, in so many reads. What was reported as left begins with them, and the
-- rest is reported after. Where nothing was reported, nothing is said of what is after.
pub record Takes (old new : Supply) (piece : List ℕ) (reads : ℕ) : Type 0 where
  pub bytes : Consumes old.left new.left piece
  pub counts : new.reads ≡ counted reads old.reads
  pub faults : old.faults ≤ new.faults

-- none is left, where it is reported
abbrev pub IsEmpty : Option (List ℕ) → Type 0
IsEmpty None = Unit {0}
IsEmpty (Some bytes) = bytes ≡ []

-- the front of a buffer that a read filled, or of a piece that a write took
abbrev pub piece_of : {E : Type 0} → Result ℕ E → List ℕ → List ℕ
piece_of (Ok n) buf = take n buf
piece_of (Err error) buf = []

-- what a sink reports of the bytes that it has taken: nothing, their number, or the bytes
pub data Reported : Type 0 where
  Nothing : Reported
  Number : ℕ → Reported
  Bytes : List ℕ → Reported

-- What was reported grew by a piece. Where nothing was reported, nothing is said of what is
-- reported after.
abbrev pub Grows : Reported → Reported → List ℕ → Type 0
Grows Nothing new piece = Unit {0}
Grows (Number n) new piece = new ≡ Number (n + length piece)
Grows (Bytes bytes) new piece = new ≡ Bytes (bytes ++ piece)

-- A sink: what it reports of the bytes that it has taken, and a count of faults.
pub record Store : Type 0 where
  pub taken : Reported
  pub faults : ℕ

-- these bytes were written
pub record Gains (old new : Store) (piece : List ℕ) : Type 0 where
  pub bytes : Grows old.taken new.taken piece
  pub faults : old.faults ≤ new.faults
