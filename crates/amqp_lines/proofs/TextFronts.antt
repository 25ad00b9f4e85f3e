-- The longest sequence of frames whose text stands in front of some bytes.
use Rattle.amqp_lines.proofs
use proofs.Names.{◌≡◌, ℕ, zero, suc, ◌+◌, ◌<◌, ◌≤◌, List, [], ◌∷◌, ◌++◌, length, take, drop, Some, None, refl, sym, ap, ◌∙◌, inl, inr, append_assoc, append-nil}
use proofs.Names.{arith, AllByRecursion, flat_map, cases_lt, take-append-drop, take-append-le, take_at, strict, Frame, Spells, SpellsFrames, canon}
use proofs.Names.{canon_frames, one_strict, IsBytes-append, IsBytes-nil, line, lines, HasNoNewline, IsFirstLine, IsStrictWithin, IsNoLine, AreStrict}
use proofs.Names.{HoldsNewline, IsLongestText, lengths}
use proofs.Newlines.{one_newline}
use proofs.ReadWords.{bytes_behind, bytes_front}
use proofs.LinesApart.{newline_once}

-- ---- strict sequences, frame by frame

-- each of these frames is encoded strictly by its canonical bytes, within the limit
abbrev pub AllStrict : ℕ → List Frame → Type 0
AllStrict m = AllByRecursion (IsStrictWithin m)

-- A strict encoding of a frame is its canonical bytes.
pub first_is_canon : {first : List ℕ} (f : Frame) → Spells strict first f → first ≡ canon f
first_is_canon {first = first} f h =
    let sequence : SpellsFrames strict None first (f ∷ []) = (first, [], sym (append-nil first), h, tt, refl) in
    (one_strict strict None first (f ∷ []) sequence).only first sequence ∙ append-nil _

-- Frames of which each is strict within the limit are so one by one.
pub all_strict : (m : ℕ) (frames : List Frame) → AreStrict m frames → AllStrict m frames
all_strict m [] h = tt
all_strict m (f ∷ fs) h =
    let sequence = h.0 in
    let same = first_is_canon f sequence.3 in
    let others = (one_strict strict (Some m) sequence.1 fs sequence.5).only sequence.1 sequence.5 in (
      record {
        is_strict = record {
          are_bytes = bytes_front (canon f) (canon_frames fs) refl h.1;
          encodes = rw same at sequence.3;
        };
        within = rw same at sequence.4;
      },
      all_strict m fs (
        rw others at sequence.5,
        bytes_behind (canon f) (canon_frames fs) refl h.1,
      ),
    )

-- Frames that are strict within the limit one by one are so each.
pub are_strict : (m : ℕ) (frames : List Frame) → AllStrict m frames → AreStrict m frames
are_strict m [] h = (refl, IsBytes-nil)
are_strict m (f ∷ fs) h =
    let others = are_strict m fs h.1 in
    ((canon f, canon_frames fs, refl, h.0.is_strict.encodes, h.0.within, others.0), IsBytes-append _ _ h.0.is_strict.are_bytes others.1)

-- ---- newlines

-- bytes without a newline are not parted by one
pub none_holds : (bytes front back : List ℕ) → HasNoNewline bytes → bytes ≡ front ++ 10 ∷ back → ⊥
none_holds [] front back h e = omega (lengths, ap length e)
none_holds (c ∷ cs) [] back h e = h.0 cc
none_holds (c ∷ cs) (d ∷ ds) back h e = none_holds cs ds back h.1 cc

-- No bytes have a newline and have none.
pub holds_none : (bytes : List ℕ) → HasNoNewline bytes → HoldsNewline bytes → ⊥
holds_none bytes h k = none_holds bytes k.front k.back h k.parts

-- The first bytes of those without a newline have none.
pub none_take : (n : ℕ) (xs : List ℕ) → HasNoNewline xs → HasNoNewline (take n xs)
none_take zero [] h = tt
none_take zero (x ∷ xs) h = tt
none_take (suc n) [] h = tt
none_take (suc n) (x ∷ xs) h = (h.0, none_take n xs h.1)

-- what begins with a line
pub line_front : (f : Frame) (x : List ℕ) → line f ++ x ≡ (one_newline f).front ++ (10 ∷ x)
line_front f x = let a = one_newline f in cc (a.parts, append_assoc a.front (10 ∷ []) x)

-- a first line that is a line, and what comes after it
pub line_first : (f : Frame) (front x y : List ℕ) → HasNoNewline front → line f ++ x ≡ front ++ (10 ∷ y) → (line f ≡ front ++ 10 ∷ []) × (x ≡ y)
line_first f front x y none h =
    let a = one_newline f in
    let same = newline_once a.front front x y a.none_before none (cc (line_front f x, h)) in
    (cc (a.parts, same.0), same.1)

-- A text that begins with a line begins with no more bytes without a newline than the line has.
pub line_longer : (f : Frame) (held more x : List ℕ) → HasNoNewline held → held ++ more ≡ line f ++ x → length held < length (line f)
line_longer f held more x clean e =
    let a = one_newline f in
    let n = length (line f) in
    elim (cases_lt _ n) [
      | inl low ↦ low
      | inr fits ↦
          let front = sym (take-append-le n held more fits) ∙ ap (take n) e ∙ take_at (line f) x n refl in
          absurd (none_holds _ a.front [] (none_take n held clean) (front ∙ a.parts))
    ]

-- ---- the longest text

-- no line stands in front
unfoldable pub IsAtNone : ℕ → List ℕ → Type 0
IsAtNone m bytes = (f : Frame) (x : List ℕ) → IsStrictWithin m f → line f ++ x ≡ bytes → ⊥

-- Bytes without a newline begin with no line.
pub at_clean : (m : ℕ) (bytes : List ℕ) → HasNoNewline bytes → IsAtNone m bytes
unfolding IsAtNone
at_clean m bytes h f x good e = none_holds bytes (one_newline f).front x h (sym e ∙ line_front f x)

-- A text is its first line, with the newline that ends it, and what follows.
pub first_line : (text : List ℕ) (end : ℕ) (h : IsFirstLine text end) → text ≡ h.front ++ (10 ∷ drop end text)
first_line text end h = cc (take-append-drop end text, h.parts, append_assoc h.front (10 ∷ []) (drop end text))

-- Where the first line of a text is that of no frame within the limit, no line is in front.
pub at_other : (m : ℕ) (text : List ℕ) (end : ℕ) → IsFirstLine text end → IsNoLine m (take end text) → IsAtNone m text
unfolding IsAtNone
at_other m text end h none f x good e =
    none f good (h.parts ∙ sym (line_first f h.front x _ h.none_before (e ∙ first_line text end h)).0)

no_longer : (m : ℕ) (fs gs : List Frame) (rest x : List ℕ) → IsAtNone m rest → AllStrict m gs → lines gs ++ x ≡ lines fs ++ rest → length gs ≤ length fs
unfolding lines IsAtNone
no_longer m fs [] rest x none good e = omega arith
no_longer m [] (g ∷ gs) rest x none good e = absurd (none g (flat_map line gs ++ x) good.0 (cc (append_assoc (line g) (flat_map line gs) x, e)))
no_longer m (f ∷ fs) (g ∷ gs) rest x none good e =
    let a = one_newline f in
    let left : line g ++ (flat_map line gs ++ x) ≡ a.front ++ (10 ∷ (flat_map line fs ++ rest)) =
    cc (append_assoc (line g) (flat_map line gs) x, e, append_assoc (line f) (flat_map line fs) rest, line_front f (flat_map line fs ++ rest)) in
    let others = line_first g a.front _ _ a.none_before left in
    omega (arith, no_longer m fs gs rest x none good.1 others.1)

-- Lines that are followed by no line are the longest text in front of some bytes.
pub is_longest : {m : ℕ} {bytes : List ℕ} {frames : List Frame} {rest : List ℕ} → AllStrict m frames
    → bytes ≡ lines frames ++ rest → IsAtNone m rest → IsLongestText m bytes frames rest
is_longest {m = m} {frames = frames} {rest = rest} good parts none = record {
  are_strict = are_strict m frames good;
  parts = parts;
  longest = λ other strict prefix. no_longer m frames other rest prefix.0 none (all_strict m other strict) (prefix.1 ∙ parts);
}
