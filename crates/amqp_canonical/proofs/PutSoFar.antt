-- Things of a list that are read and put one after another.
use Rattle.std.proofs.Common.{◌≡◌, ◌<◌, ◌≤◌, ℕ, zero, suc, ◌+◌, List, [], ◌∷◌, ◌++◌, length, get_or, map, drop, refl, sym, ap, ap₂, ◌∙◌, append_assoc}
use Rattle.std.proofs.Common.{append-nil, arith}
use Rattle.std.proofs.lemmas.List.{length-append, drop_all}
use Rattle.amqp_types.specs.Judging.{Judge, IsBytes, took}
use Rattle.amqp_types.specs.Sequences.{judge_both}
use Rattle.amqp_types.specs.Tidiness.{used_by}
use Rattle.amqp_types.proofs.Bytes.{IsBytes-drop}
use Rattle.amqp_canonical.specs.Writes.{IsRead, PutsIfRoom, canonical_of}
use Rattle.amqp_canonical.proofs.Putting.{same_put, none_put, then_put}
use Rattle.amqp_canonical.proofs.ReadParts.{Uses, bind_read, is_read}

module _ {P X Y : Type 0} (one : P → Judge X) (all : List P → Judge Y) (one_bytes : P → X → List ℕ) (all_bytes : List P → Y → List ℕ) where
  abbrev one_put : P → List ℕ → List ℕ
  one_put p bytes = canonical_of (one_bytes p) (one p bytes)

  abbrev all_put : List P → List ℕ → List ℕ
  all_put ps bytes = canonical_of (all_bytes ps) (all ps bytes)

  -- the first one is decoded and put, and then those after it
  pub record IsJoined (join : X → Y → Y) : Type 0 where
    pub step : (p : P) (ps : List P) (bytes : List ℕ) → all (p ∷ ps) bytes ≡ judge_both (one p) (all ps) join bytes
    pub bytes_are : (p : P) (ps : List P) (bytes : List ℕ) (x : X) (n : ℕ) (y : Y) → IsBytes bytes
        → one p bytes ≡ took x n → all_bytes (p ∷ ps) (join x y) ≡ one_bytes p x ++ all_bytes ps y
    pub none : (bytes : List ℕ) → all_put [] bytes ≡ []

  -- the first k were put, and the others are left
  pub record PutSoFar (ps : List P) (bytes left : List ℕ) (k : ℕ) (old new : List ℕ) (at end : ℕ) : Type 0 where
    pub done : List ℕ
    pub fits : IsBytes left
    pub read : IsRead (all (drop k ps) left)
    pub parts : all_put ps bytes ≡ done ++ all_put (drop k ps) left
    pub put : PutsIfRoom old new at done end

  -- the next one, which does not pass the end
  pub record PutHere (ps : List P) (p : P) (bytes left : List ℕ) (k n : ℕ) (old mid : List ℕ) (at end : ℕ) : Type 0 where
    pub read : IsRead (one p left)
    pub within : end + length (one_put p left) ≤ at + length (all_put ps bytes)
    pub next : (new : List ℕ) (place : ℕ) → PutsIfRoom mid new end (one_put p left) place → PutSoFar ps bytes (drop n left) (k + 1) old new at place

module _ {P X Y : Type 0} {one : P → Judge X} {all : List P → Judge Y} {one_bytes : P → X → List ℕ} {all_bytes : List P → Y → List ℕ} where
  -- At the start nothing of a list was put.
  pub so_far_none : {ps : List P} {bytes buf : List ℕ} {at : ℕ} → IsBytes bytes → IsRead (all ps bytes)
      → PutSoFar one all one_bytes all_bytes ps bytes bytes 0 buf buf at at
  so_far_none {buf = buf} {at} fits read = record { done = []; fits = fits; read = read; parts = refl; put = none_put buf at [] refl }

  -- The next of a list was decoded, its canonical bytes fit, and it is put next.
  pub so_far_here : {join : X → Y → Y} {ps : List P} {p : P} {bytes left : List ℕ} {k n : ℕ} {old mid : List ℕ} {at end : ℕ}
      → IsJoined one all one_bytes all_bytes join → drop k ps ≡ p ∷ drop (k + 1) ps → Uses (one p left) n
      → PutSoFar one all one_bytes all_bytes ps bytes left k old mid at end → PutHere one all one_bytes all_bytes ps p bytes left k n old mid at end
  so_far_here {ps = ps} {p} {left = left} {k} {n} joined is sized h =
      let others = drop (k + 1) ps in
      let step = ap (λ qs. all qs left) is ∙ joined.step p others left in
      let a = bind_read (one p left) _ (rw step at h.read) in
      let b = bind_read (all others (drop a.1 left)) _ a.3 in
      let read = is_read (one p left) a.0 a.1 a.2 in
      let rest : all others (drop n left) ≡ took b.0 b.1 = ap (λ m. all others (drop m left)) (sized read ∙ ap used_by a.2) ∙ b.2 in
      let here = canonical_of (one_bytes p) (one p left) in
      let behind = canonical_of (all_bytes others) (all others (drop n left)) in
      let parts : canonical_of (all_bytes (p ∷ others)) (all (p ∷ others) left) ≡ here ++ behind =
      ap (canonical_of (all_bytes (p ∷ others))) (joined.step p others left ∙ a.4 ∙ b.4) ∙ joined.bytes_are p others left a.0 a.1 b.0 h.fits a.2
      ∙ sym (ap₂ (λ x y. x ++ y) (ap (canonical_of (one_bytes p)) a.2) (ap (canonical_of (all_bytes others)) rest)) in
      let whole = h.parts ∙ ap (λ qs. h.done ++ canonical_of (all_bytes qs) (all qs left)) is ∙ ap (λ bs. h.done ++ bs) parts in
      record {
        read = read;
        within = omega (arith, h.put.behind, ap length whole, length-append h.done (here ++ behind), length-append here behind);
        next = λ new place put. record {
          done = h.done ++ here;
          fits = IsBytes-drop n left h.fits;
          read = is_read (all others (drop n left)) b.0 b.1 rest;
          parts = whole ∙ sym (append_assoc h.done here behind);
          put = then_put h.put put;
        };
      }

  -- Where none is left, the canonical bytes of all were put.
  pub so_far_end : {join : X → Y → Y} {ps : List P} {bytes left : List ℕ} {k : ℕ} {old new : List ℕ} {at end : ℕ}
      → IsJoined one all one_bytes all_bytes join → length ps ≤ k → PutSoFar one all one_bytes all_bytes ps bytes left k old new at end
      → PutsIfRoom old new at (canonical_of (all_bytes ps) (all ps bytes)) end
  so_far_end {ps = ps} {left = left} {k} joined long h =
      let none = ap (λ qs. h.done ++ canonical_of (all_bytes qs) (all qs left)) (drop_all k ps long) ∙ ap (λ bs. h.done ++ bs) (joined.none left) in
      same_put (sym (h.parts ∙ none ∙ append-nil h.done)) h.put

-- From place k on, what is made of a list is what is made of thing k, and what is made of those after it.
pub map_from : {A B : Type 0} (f : A → B) (xs : List A) (k : ℕ) (d : A) → k < length xs → drop k (map f xs) ≡ f (get_or xs k d) ∷ drop (k + 1) (map f xs)
map_from f [] k d h = absurd (omega arith)
map_from f (x ∷ xs) zero d h = refl
map_from f (x ∷ xs) (suc k) d h =
    map_from f xs k d (omega arith)
    ∙ ap (λ n. f (get_or xs k d) ∷ drop n (f x ∷ map f xs)) (let next : suc (k + 1) ≡ suc k + 1 = omega arith in next)
