-- Things one after another are decoded one after another, at every level.
use Rattle.std.proofs.Common.{◌≡◌, ◌↔◌, ℕ, ◌+◌, ◌<◌, ◌≤◌, ◌&&◌, Bool, true, false, List, [], ◌∷◌, ◌++◌, length, get_or, take, drop}
use Rattle.std.proofs.Common.{Result, Ok, Err, refl, sym, ap}
use Rattle.std.proofs.Common.{subst, ◌∙◌, append_assoc, add_assoc, arith}
use Rattle.std.proofs.lemmas.List.{length-append, take_at, drop_at, drop-drop, take-append-drop, at_drop_more, drop_all}
use Rattle.std.proofs.Math.Seq.{take-add}
use Rattle.amqp_types.specs.Levels.{Level, tidy, strict}
use Rattle.amqp_types.specs.Judging.{Judge, took}
use Rattle.amqp_types.specs.Sequences.{judge_both, SpellsBoth}
use Rattle.amqp_types.specs.FormLaws.{IsLawful}
use Rattle.amqp_types.specs.declared.errors.ParserError.{ParserError}
use Rattle.amqp_types.proofs.FormLaws.{is_plain}
use Rattle.amqp_types.proofs.Took.{value_took, count_took}
use Rattle.amqp_canonical.specs.declared.slots.Judgement.{Judgement}
use Rattle.amqp_canonical.specs.SlotJudgements.{TakesTidily, JudgesLevels, after_others}
use Rattle.amqp_canonical.proofs.Refusing.{Fails, fails_next}
use Rattle.amqp_canonical.proofs.Children.{both_decided}

-- what is encoded at any level is decoded, whatever follows
pub record IsRead {A : Type 0} (judge : Judge A) (Spells : Level → List ℕ → A → Type 0) : Type 0 where
  pub read : (level : Level) (bytes rest : List ℕ) (x : A) → Spells level bytes x → judge (bytes ++ rest) ≡ took x (length bytes)

-- What encodes a value of a lawful form at any level is decoded to be that value, whatever follows.
pub law_read : {A : Type 0} {judge : Judge A} {Spells : Level → List ℕ → A → Type 0} {canonical : A → List ℕ}
    → IsLawful judge Spells canonical → IsRead judge Spells
law_read {Spells = Spells} law =
    record { read = λ level bytes rest x h. law.exact.taken bytes rest x (is_plain Spells law.strict_is_tidy law.tidy_is_plain level bytes x h) }

-- ---- one thing after another

module _ {A B C : Type 0} {first : Judge A} {second : Judge B} {First : Level → List ℕ → A → Type 0}
    {Second : Level → List ℕ → B → Type 0} (join : A → B → C) (first_read : IsRead first First) (second_read : IsRead second Second) where
  abbrev Both : Level → List ℕ → C → Type 0
  Both level bytes z = SpellsBoth (First level) (Second level) join bytes z

  -- What encodes two values at any level, one after the other, is decoded to be both joined, whatever follows.
  pub both_read : IsRead (judge_both first second join) Both
  both_read = record {
    read = λ level bytes rest z h.
        let tail = h.behind ++ rest in
        rw (
          h.bytes_are,
          append_assoc h.front h.behind rest,
          first_read.read level h.front tail h.one h.first_is,
          drop_at h.front tail (length h.front) refl,
          second_read.read level h.behind rest h.two h.second_is,
          h.joined,
          length-append h.front h.behind,
        );
  }

  -- An encoding of two decoded values, one after the other, is an encoding of each of them, split where the first one ends.
  pub split_at : (level : Level) (bytes : List ℕ) (x : A) (y : B) (m n : ℕ) → first bytes ≡ took x m → second (drop m bytes) ≡ took y n
      → First level (take m bytes) x × Second level (take n (drop m bytes)) y ↔ Both level (take (m + n) bytes) (join x y)
  split_at level bytes x y m n h k = (
    λ p. record {
      front = take m bytes;
      behind = take n (drop m bytes);
      one = x;
      two = y;
      bytes_are = take-add m n bytes;
      first_is = p.0;
      second_is = p.1;
      joined = refl;
    },
    λ s.
        let tail = drop (m + n) bytes in
        let rest = s.behind ++ tail in
        let all : bytes ≡ s.front ++ rest = sym (take-append-drop (m + n) bytes) ∙ ap (λ bs. bs ++ tail) s.bytes_are ∙ append_assoc s.front s.behind tail in
        let one : took s.one (length s.front) ≡ took x m = sym (first_read.read level s.front rest s.one s.first_is) ∙ sym (ap first all) ∙ h in
        let front_count : length s.front ≡ m = count_took _ _ _ _ one in
        let behind : drop m bytes ≡ rest = ap (drop m) all ∙ drop_at s.front rest m front_count in
        let two : took s.two (length s.behind) ≡ took y n = sym (second_read.read level s.behind tail s.two s.second_is) ∙ sym (ap second behind) ∙ k in
        let behind_count : length s.behind ≡ n = count_took _ _ _ _ two in
        let front_is : s.front ≡ take m bytes = sym (take_at s.front rest m front_count) ∙ sym (ap (take m) all) in
        let behind_is : s.behind ≡ take n (drop m bytes) = sym (take_at s.behind tail n behind_count) ∙ sym (ap (take n) behind) in
        let x_is : s.one ≡ x = value_took _ _ _ _ one in
        let y_is : s.two ≡ y = value_took _ _ _ _ two in (
          rw (← front_is, ← x_is) s.first_is,
          rw (← behind_is, ← y_is) s.second_is,
        ),
  )

  -- Where the first of two values is taken, both are decoded as the second one is, after the first.
  pub both_judged : (bytes : List ℕ) (j : Judgement) (r : Result Judgement ParserError)
      → TakesTidily (First strict) (First tidy) j bytes (first bytes) → JudgesLevels Second (drop j.used bytes) r (second (drop j.used bytes))
      → JudgesLevels Both bytes (after_others j.used j.canonical j.tidy r) (judge_both first second join bytes)
  both_judged bytes j (Ok k) one two =
      let at = λ (level : Level). split_at level bytes one.thing two.thing j.used k.used one.is two.is in
      record {
        thing = join one.thing two.thing;
        is = rw (one.is, two.is);
        canonical = both_decided one.canonical two.canonical (at strict);
        tidy = both_decided one.tidy two.tidy (at tidy);
      }
  both_judged bytes j (Err e) one two = rw one.is (fails_next _ _ _ two)

-- ---- what is returned after others

and_assoc : (a b c : Bool) → (a && (b && c)) ≡ ((a && b) && c)
and_assoc true b c = refl
and_assoc false b c = refl

-- A conjunction with true is its first part.
pub and_true : (a : Bool) → (a && true) ≡ a
and_true true = refl
and_true false = refl

-- a result of decoding: how many bytes, and whether they are canonical and tidy
abbrev pub judgement : ℕ → Bool → Bool → Result Judgement ParserError
judgement n c t = Ok (record { used = n; canonical = c; tidy = t })

-- Results of decoding with the same count and the same answers are equal.
pub same_judgement : (n m : ℕ) (c d t u : Bool) → n ≡ m → c ≡ d → t ≡ u → judgement n c t ≡ judgement m d u
same_judgement n m c d t u p q r = ap (λ a. judgement a c t) p ∙ ap (λ a. judgement m a t) q ∙ ap (λ a. judgement m d a) r

after_twice : (at n : ℕ) (c d t u : Bool) (r : Result Judgement ParserError)
    → after_others at c t (after_others n d u r) ≡ after_others (at + n) (c && d) (t && u) r
after_twice at n c d t u (Ok j) = same_judgement _ _ _ _ _ _ (sym (add_assoc at n j.used)) (and_assoc c d j.canonical) (and_assoc t u j.tidy)
after_twice at n c d t u (Err e) = refl

after_none : (r : Result Judgement ParserError) → after_others 0 true true r ≡ r
after_none (Ok j) = same_judgement (0 + j.used) j.used j.canonical j.canonical j.tidy j.tidy (omega arith) refl refl
after_none (Err e) = refl

-- ---- many things, one after another

-- Things are decoded one after another.
pub record IsWalk {X A R : Type 0} (one : X → Judge A) (One : X → Level → List ℕ → A → Type 0)
    (all : List X → Judge R) (All : List X → Level → List ℕ → R → Type 0) : Type 0 where
  pub step : (x : X) (xs : List X) (bytes : List ℕ) (j : Judgement) (r : Result Judgement ParserError)
      → TakesTidily (One x strict) (One x tidy) j bytes (one x bytes) → JudgesLevels (All xs) (drop j.used bytes) r (all xs (drop j.used bytes))
      → JudgesLevels (All (x ∷ xs)) bytes (after_others j.used j.canonical j.tidy r) (all (x ∷ xs) bytes)
  pub stop : (x : X) (xs : List X) (bytes : List ℕ) (e : ParserError) → Fails e (one x bytes) → Fails e (all (x ∷ xs) bytes)
  pub none : (bytes : List ℕ) → JudgesLevels (All []) bytes (judgement 0 true true) (all [] bytes)

module _ {X A R : Type 0} {one : X → Judge A} {One : X → Level → List ℕ → A → Type 0}
    {all : List X → Judge R} {All : List X → Level → List ℕ → R → Type 0} (walk : IsWalk one One all All) where
  -- One thing alone is decoded as it is.
  pub one_alone : (x : X) (bytes : List ℕ) (r : Result Judgement ParserError)
      → JudgesLevels (One x) bytes r (one x bytes) → JudgesLevels (All (x ∷ [])) bytes r (all (x ∷ []) bytes)
  one_alone x bytes (Ok j) h =
      subst (λ s. JudgesLevels (All (x ∷ [])) bytes s (all (x ∷ []) bytes))
      (same_judgement (j.used + 0) j.used (j.canonical && true) j.canonical (j.tidy && true) j.tidy (omega arith) (and_true j.canonical) (and_true j.tidy))
      (walk.step x [] bytes j (judgement 0 true true) h (walk.none (drop j.used bytes)))
  one_alone x bytes (Err e) h = walk.stop x [] bytes e h

  -- what is returned of the rest says what is returned of all
  pub record IsReached (xs : List X) (bytes : List ℕ) (k at : ℕ) (canonical so_far : Bool) : Type 0 where
    pub onward : (r : Result Judgement ParserError) → JudgesLevels (All (drop k xs)) (drop at bytes) r (all (drop k xs) (drop at bytes))
        → JudgesLevels (All xs) bytes (after_others at canonical so_far r) (all xs bytes)

  -- At the start nothing was decoded, and the empty bytes are canonical and tidy.
  pub reached_none : (xs : List X) (bytes : List ℕ) → IsReached xs bytes 0 0 true true
  reached_none xs bytes = record { onward = λ r h. subst (λ s. JudgesLevels (All xs) bytes s (all xs bytes)) (sym (after_none r)) h }

  module _ {xs : List X} {bytes : List ℕ} {k at : ℕ} {canonical so_far : Bool} (before : IsReached xs bytes k at canonical so_far) where
    -- With one decoded value more, those up to its end are canonical exactly where it is and those before it are, and likewise tidy.
    pub reached_more : (j : Judgement) (other : X) → k < length xs
        → (let x = get_or xs k other in TakesTidily (One x strict) (One x tidy) j (drop at bytes) (one x (drop at bytes)))
        → IsReached xs bytes (k + 1) (at + j.used) (canonical && j.canonical) (so_far && j.tidy)
    reached_more j other more here = record {
      onward = λ r h.
          let others = drop (k + 1) xs in
          let onward = subst (λ ys.
          (s : Result Judgement ParserError) → JudgesLevels (All ys) (drop at bytes) s (all ys (drop at bytes))
          → JudgesLevels (All xs) bytes (after_others at canonical so_far s) (all xs bytes)) (at_drop_more (λ ys. ys) xs k other more) before.onward in
          subst (λ s. JudgesLevels (All xs) bytes s (all xs bytes)) (after_twice at j.used canonical j.canonical so_far j.tidy r)
          (onward _ (walk.step (get_or xs k other) others (drop at bytes) j r here
          (subst (λ bs. JudgesLevels (All others) bs r (all others bs)) (sym (drop-drop j.used at bytes)) h)));
    }

    -- An error in a value of a list, after those before it, is the error of all.
    pub reached_fails : (e : ParserError) (other : X) → k < length xs → Fails e (one (get_or xs k other) (drop at bytes)) → Fails e (all xs bytes)
    reached_fails e other more h =
        before.onward (Err e) (subst (λ ys. Fails e (all ys (drop at bytes))) (sym (at_drop_more (λ ys. ys) xs k other more))
        (walk.stop (get_or xs k other) (drop (k + 1) xs) (drop at bytes) e h))

    -- Where all values of a list were decoded, what is said of them up to the end is said of all.
    pub reached_all : length xs ≤ k → JudgesLevels (All xs) bytes (judgement at canonical so_far) (all xs bytes)
    reached_all end =
        subst (λ s. JudgesLevels (All xs) bytes s (all xs bytes))
        (same_judgement (at + 0) at (canonical && true) canonical (so_far && true) so_far (omega arith) (and_true canonical) (and_true so_far))
        (before.onward (judgement 0 true true)
        (subst (λ ys. JudgesLevels (All ys) (drop at bytes) (judgement 0 true true) (all ys (drop at bytes)))
        (sym (drop_all k xs end)) (walk.none (drop at bytes))))
