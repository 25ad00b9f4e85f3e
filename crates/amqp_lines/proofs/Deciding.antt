-- Whether a text is the line of a frame can be decided, and so some sequence of lines in front of a text is the longest.
use Rattle.amqp_lines.proofs
use proofs.Names.{◌≡◌, ◌≢◌, ◌⊎◌, ℕ, zero, suc, ◌-◌, ◌≤◌, Bool, true, false, List, [], ◌∷◌, ◌++◌, length, take, drop, Some, refl, sym, ap, ◌∙◌, inl, inr}
use proofs.Names.{append_assoc, arith, cases_lt, length-drop, take_at, take-append-drop, bytes_eq-Decides, strict, IsBytes, Judged, took, value_took, Frame}
use proofs.Names.{Raw, channel_id_of, raw_bytes, canon, payload_of, judge_frame, verdict-spelled, verdict-spells, IsBytes-append, IsBytes-nil, IsStrict, words}
use proofs.Names.{line, lines, HasNoNewline, IsFirstLine, IsStrictWithin, IsNoLine, read_words, lengths}
use Rattle.std.specs.Str.{bytes_eq}
use proofs.ReadLines.{kind_of}
use proofs.ReadWords.{bytes_behind, bytes_front}
use proofs.LinesApart.{raw_canon, strict_back}
use proofs.TextFronts.{AllStrict, first_is_canon, IsAtNone, at_clean, at_other}
use proofs.CanonBytes.{one_byte}

-- ---- what is read of a line

-- a frame, borrowed from its own canonical payload
abbrev pub raw_in : Frame → Raw
raw_in f = record { kind = kind_of f; channel = channel_id_of f; payload = payload_of f }

words_in : (f : Frame) {text : List ℕ} → text ≡ line f → take (length text - 1) text ≡ words f
unfolding line
words_in f e = rw e (take_at (words f) _ _ (omega lengths))

-- What is read of the words of a strict frame's line is the frame's kind, channel and canonical payload.
pub line_back : {f : Frame} {text : List ℕ} → IsStrict f → text ≡ line f → read_words (take (length text - 1) text) ≡ raw_in f
line_back {f = f} h e = cc (words_in f e, strict_back f h)

-- ---- tests

bytes_or : (xs : List ℕ) → IsBytes xs ⊎ (IsBytes xs → ⊥)
bytes_or [] = inl IsBytes-nil
bytes_or (x ∷ xs) = elim (cases_lt x 256) [
  | inl low ↦ elim (bytes_or xs) [
    | inl h ↦ inl (IsBytes-append (x ∷ []) xs (λ i. one_byte x i low) h)
    | inr never ↦ inr (λ h. never (bytes_behind (x ∷ []) xs refl h))
  ]
  | inr high ↦ inr (λ h. omega (arith, h 0))
]

same_or : {xs ys : List ℕ} → (xs ≡ ys) ⊎ (xs ≢ ys)
same_or {xs = xs} {ys = ys} = by_test _ refl
  where
    by_test : (b : Bool) → bytes_eq xs ys ≡ b → (xs ≡ ys) ⊎ (xs ≢ ys)
    by_test true h = inl ((bytes_eq-Decides xs ys).0 h)
    by_test false h = inr (λ e. let x = (bytes_eq-Decides xs ys).1 e in cc)

-- ---- deciding

pub record IsALine (m : ℕ) (text : List ℕ) : Type 0 where
  pub frame : Frame
  pub good : IsStrictWithin m frame
  pub is_line : text ≡ line frame

-- what the bytes of a frame are decoded as, of which a text is the line
judged_line : {m : ℕ} {text : List ℕ} {f : Frame} → IsStrictWithin m f → text ≡ line f → raw_bytes (read_words (take (length text - 1) text)) ≡ canon f
judged_line {f = f} good e = cc (line_back good.is_strict e, raw_canon f)

verdict_line : {m : ℕ} {text : List ℕ} {f : Frame} → IsStrictWithin m f → text ≡ line f
    → judge_frame strict (Some m) (raw_bytes (read_words (take (length text - 1) text))) ≡ took f (length (canon f))
verdict_line {f = f} good e =
    rw (judged_line good e) (verdict-spelled strict _ _ f good.is_strict.encodes good.within)

by_verdict : (m : ℕ) (text : List ℕ) (v : Judged Frame)
    → judge_frame strict (Some m) (raw_bytes (read_words (take (length text - 1) text))) ≡ v → IsALine m text ⊎ IsNoLine m text
by_verdict m text (took g n) h =
    let bytes = raw_bytes (read_words (take (length text - 1) text)) in
    elim (bytes_or bytes) [
      | inr never ↦ inr (λ f good e. absurd (never (rw (judged_line good e) good.is_strict.are_bytes)))
      | inl fits ↦ elim (same_or) [
        | inr different ↦
            inr (λ f good e. absurd (different (cc (e, value_took f g (length (canon f)) n (sym (verdict_line good e) ∙ h)))))
        | inl same ↦
            let spelled = verdict-spells strict (Some m) bytes g n fits h in
            let is = first_is_canon g spelled.0 in
            let front = bytes_front (take n bytes) (drop n bytes) (sym (take-append-drop n bytes)) fits in
            inl (record {
              frame = g;
              good = record { is_strict = record { are_bytes = rw is at front; encodes = rw is at spelled.0 }; within = rw is at spelled.1 };
              is_line = same;
            })
      ]
    ]
by_verdict m text v h = inr (λ f good e. absurd (let x = sym h ∙ verdict_line good e in cc))

decide_line : (m : ℕ) (text : List ℕ) → IsALine m text ⊎ IsNoLine m text
decide_line m text = by_verdict m text _ refl

-- ---- the first line of a text

first_more : {c : ℕ} {text : List ℕ} {end : ℕ} → c ≢ 10 → IsFirstLine text end → IsFirstLine (c ∷ text) (suc end)
first_more {c = c} differs h =
    record {
      front = c ∷ h.front;
      parts = ap (λ xs. c ∷ xs) h.parts;
      none_before = (differs, h.none_before);
      some = omega arith;
      within = omega (arith, h.within);
    }

pub record HasFirstLine (text : List ℕ) : Type 0 where
  pub end : ℕ
  pub is_first : IsFirstLine text end

-- A text has a first line, or it has no newline.
pub first_or : (text : List ℕ) → HasFirstLine text ⊎ HasNoNewline text
first_or [] = inr tt
first_or (c ∷ cs) = elim (same_or) [
  | inl same ↦ inl (record { end = 1; is_first = record { front = []; parts = same; none_before = tt; some = omega arith; within = omega arith } })
  | inr other ↦
      let differs : c ≢ 10 = λ e. other (ap (λ x. x ∷ []) e) in
      elim (first_or cs) [
        | inl h ↦ inl (record { end = suc h.end; is_first = first_more differs h.is_first })
        | inr none ↦ inr (differs, none)
      ]
]

-- ---- the longest text

-- strict frames whose lines are in front of a text, and what follows them, which begins with no line
pub record Fronts (m : ℕ) (text : List ℕ) : Type 0 where
  pub frames : List Frame
  pub rest : List ℕ
  pub good : AllStrict m frames
  pub parts : text ≡ lines frames ++ rest
  pub none : IsAtNone m rest

none_front : {m : ℕ} {text : List ℕ} → IsAtNone m text → Fronts m text
unfolding lines
none_front {text = text} h = record { frames = []; rest = text; good = tt; parts = refl; none = h }

unfoldable pub more_front : (m : ℕ) (text : List ℕ) (end : ℕ) (f : Frame)
    → IsStrictWithin m f → take end text ≡ line f → Fronts m (drop end text) → Fronts m text
unfolding lines
more_front m text end f good is h = record {
  frames = f ∷ h.frames;
  rest = h.rest;
  good = (good, h.good);
  parts =
      cc (take-append-drop end text, is, h.parts, append_assoc (line f) (lines h.frames) h.rest);
  none = h.none;
}

fronts_by : (m n : ℕ) (text : List ℕ) → length text ≤ n → Fronts m text
fronts_by m zero text few = none_front (at_clean m text (none_in text few))
  where
    none_in : (xs : List ℕ) → length xs ≤ 0 → HasNoNewline xs
    none_in [] h = tt
    none_in _ h = absurd (omega arith)
fronts_by m (suc n) text few = elim (first_or text) [
  | inr none ↦ none_front (at_clean m text none)
  | inl h ↦ elim (decide_line m _) [
    | inl is ↦
        more_front m text h.end is.frame is.good is.is_line
        (fronts_by m n _ (omega (arith, few, length-drop h.end text, h.is_first.some, h.is_first.within)))
    | inr other ↦ none_front (at_other m text h.end h.is_first other)
  ]
]

-- Each text is the lines of strict frames, and then what begins with no line.
pub fronts_of : {m : ℕ} {text : List ℕ} → Fronts m text
fronts_of {m = m} {text = text} = fronts_by m (length text) text (omega arith)
