-- What was taken, written and counted adds up.
use Rattle.amqp_stream.proofs
use proofs.Names.{◌≡◌, ℕ, ◌+◌, ◌-◌, ◌<◌, ◌≤◌, List, [], ◌++◌, length, Option, Some, sym, ap, subst, ◌∙◌, inl, inr, arith, append_assoc, append-nil, cases_lt}
use proofs.Names.{length-append, IsBytes, Supply, Takes, Store, Gains, Grows, Rises, prepended, counted, ahead}
use Rattle.std.proofs.Common.{get_or}
use Rattle.std.proofs.KnownBytes.{Consumes-nil, Consumes-trans}
use Rattle.std.proofs.lemmas.List.{get_or_append_left, get_or-append-add}
use Rattle.std.specs.Io.KnownBytes.{Consumes}
use Rattle.amqp_stream.specs.Ends.{Reported}

-- ---- counts of faults

-- a count that rose late rose
pub Rises-later : (a s t : ℕ) → a ≤ s → s ≤ t → Rises s t → Rises a t
Rises-later a s t p q r = grind arith

-- ---- sources

prepended-nil : (left : Option (List ℕ)) → left ≡ prepended [] left
prepended-nil left = grind arith

counted-counted : (n k : ℕ) (reads : Option ℕ) → counted k (counted n reads) ≡ counted (n + k) reads
counted-counted n k reads = grind arith

counted-zero : (reads : Option ℕ) → counted 0 reads ≡ reads
counted-zero reads = grind arith

-- Bytes that were taken in two parts, one after the other, were taken.
pub Takes-then : (a b c : Supply) (p q : List ℕ) (n k : ℕ) → Takes a b p n → Takes b c q k → Takes a c (p ++ q) (n + k)
Takes-then a b c p q n k f g = record {
  bytes = Consumes-trans a.left b.left c.left p q f.bytes g.bytes;
  counts = g.counts ∙ ap (counted k) f.counts ∙ counted-counted n k a.reads;
  faults = omega arith;
}

-- A source that was not read has given no bytes.
pub Takes-none : (a : Supply) → Takes a a [] 0
Takes-none a = search (arith, Consumes-nil, sym (counted-zero a.reads))

Consumes-ahead : (old new : Option (List ℕ)) (held piece : List ℕ) → Consumes old new piece → Consumes (prepended held old) new (held ++ piece)
Consumes-ahead old new held piece h = grind (arith, append_assoc)

-- bytes that are held already, and then these were taken
pub Takes-ahead : (a b : Supply) (held piece all : List ℕ) (n : ℕ) → all ≡ held ++ piece → Takes a b piece n → Takes (ahead held a) b all n
Takes-ahead a b held piece all n e f =
    search (subst (Consumes (prepended held a.left) b.left) (sym e) (Consumes-ahead a.left b.left held piece f.bytes))

-- Where a source reported its bytes, those that were taken are in front of what it has left.
pub taken_of : {a b : Supply} {bytes piece : List ℕ} {n : ℕ} → a.left ≡ Some bytes → Takes a b piece n → Some bytes ≡ prepended piece b.left
taken_of left f = let taken = rw left at f.bytes in grind arith

-- nothing is held already
pub ahead_of_none : (held : List ℕ) (a : Supply) → held ≡ [] → ahead held a ≡ a
ahead_of_none held a e = rw (e, ← prepended-nil a.left)

-- ---- counts of bytes

-- none came
pub counted_none : (count : ℕ) (piece : List ℕ) → length piece ≡ 0 → Some count ≡ counted (length piece) (Some count)
counted_none count piece e = ap Some (omega arith)

-- more came
pub counted_more : (first second third : ℕ) (p q : List ℕ) → Some second ≡ counted (length p) (Some first)
    → Some third ≡ counted (length q) (Some second) → Some third ≡ counted (length (p ++ q)) (Some first)
counted_more first second third p q f g =
    cc (counted-counted (length p) (length q) (Some first), length-append p q)

-- ---- sinks

Grows-then : (t u v : Reported) (p q : List ℕ) → Grows t u p → Grows u v q → Grows t v (p ++ q)
Grows-then t u v p q f g = grind (arith, length-append p q, append_assoc)

-- What is reported stays where nothing is written.
pub Grows-none : (t : Reported) → Grows t t []
Grows-none t = grind (arith, append-nil)

-- A sink to which nothing was written has got no bytes.
pub Gains-none : (a : Store) → Gains a a []
Gains-none a = search (arith, Grows-none)

-- Bytes that were written in two parts, one after the other, were written.
pub Gains-then : (a b c : Store) (p q : List ℕ) → Gains a b p → Gains b c q → Gains a c (p ++ q)
Gains-then a b c p q f g = search (arith, Grows-then)

-- ---- bytes

-- Two lists of bytes, one after the other, are bytes.
pub IsBytes-append : (p q : List ℕ) → IsBytes p → IsBytes q → IsBytes (p ++ q)
IsBytes-append p q f g i = elim (cases_lt i (length p)) [
  | inl low ↦ rw (get_or_append_left p q 0 i low) (f i)
  | inr high ↦
      let at : length p + (i - length p) ≡ i = omega arith in
      subst (λ k. get_or (p ++ q) k 0 < 256) at (rw (get_or-append-add p q (i - length p) 0) (g (i - length p)))
]

-- No bytes are bytes.
pub IsBytes-nil : IsBytes []
IsBytes-nil i = omega arith
