-- Two ways to judge the same bytes that agree: what one takes the other takes too.
use Rattle.std.proofs.Common.{◌≡◌, ℕ, ◌≤◌, List, ◌∷◌, Result, Ok, Err, refl, sym, ap, subst, ◌∙◌}
use Rattle.amqp_fields.proofs.Names.{bind_took, value_took, count_took, Fault, Judged, fault, past, took, ◌>>=◌, next_item, read_map}

-- what holds of what was taken holds of what is the same
pub as_took : {B : Type 0} (P : B → ℕ → Type 0) {x y : B} {n m : ℕ} → took x n ≡ took y m → P x n → P y m
as_took P {x} {y} {n} {m} e h = subst (λ z. P z m) (value_took _ _ _ _ e) (subst (P x) (count_took _ _ _ _ e) h)

-- it takes so many bytes, at most as many as there are, and what it takes is related
abbrev pub Takes : {A B : Type 0} → (A → B → ℕ → Type 0) → ℕ → Judged B → A → ℕ → Type 0
Takes {A} {B} R size k x n = (y : B) × (k ≡ took y n) × (n ≤ size) × R x y n

-- what the first takes, the second takes too
abbrev pub Follows : {A B : Type 0} → (A → B → ℕ → Type 0) → ℕ → Judged A → Judged B → Type 0
Follows {A} R size j k = (x : A) (n : ℕ) → j ≡ took x n → Takes R size k x n

-- both take something that is related, or neither takes anything
pub record Agree {A B : Type 0} (R : A → B → ℕ → Type 0) (size : ℕ) (j : Judged A) (k : Judged B) : Type 0 where
  pub there : Follows R size j k
  pub back : (y : B) (n : ℕ) → k ≡ took y n → (x : A) × (j ≡ took x n)

module _ {A B : Type 0} {R : A → B → ℕ → Type 0} {size : ℕ} where
  -- what the second takes is related to what the first takes
  pub agree_back : {j : Judged A} {k : Judged B} → Agree R size j k → (y : B) (n : ℕ) → k ≡ took y n → (x : A) × (j ≡ took x n) × (n ≤ size) × R x y n
  agree_back h y n e =
      let one = h.back y n e in
      let all = h.there one.0 n one.1 in
      (one.0, one.1, all.2, subst (λ z. R one.0 z n) (value_took _ _ _ _ (sym all.1 ∙ e)) all.3)

  -- both take something
  pub agree_took : (x : A) (y : B) (n : ℕ) → n ≤ size → R x y n → Agree R size (took x n) (took y n)
  agree_took x y n few r = record {
    there = λ z m e. as_took (Takes R size (took y n)) e (y, refl, few, r);
    back = λ z m e. (x, ap (took x) (count_took _ _ _ _ e));
  }

  -- no byte is there
  pub agree_past : Agree R size past past
  agree_past = record { there = λ x n e. absurd cc; back = λ y n e. absurd cc }

  -- both find a fault
  pub agree_fault : {a b : Fault} → Agree R size (fault a) (fault b)
  agree_fault = record { there = λ x n e. absurd cc; back = λ y n e. absurd cc }

  -- of what is related more is known
  pub agree_as : {S : A → B → ℕ → Type 0} {j : Judged A} {k : Judged B} → Agree R size j k → ((x : A) (y : B) (n : ℕ) → R x y n → S x y n) → Agree S size j k
  agree_as h more = record { there = λ x n e. let y = h.there x n e in (y.0, y.1, y.2, more x y.0 n y.3); back = h.back }

module _ {A B C : Type 0} {R : A → C → ℕ → Type 0} {size : ℕ} where
  -- something is made of what the first takes
  pub follows_make : (S : B → C → ℕ → Type 0) (j : Judged A) (k : Judged C) (make : A → B)
      → Follows R size j k → ((x : A) (y : C) (n : ℕ) → R x y n → S (make x) y n) → Follows S size (j >>= λ x. took (make x.0) x.1) k
  follows_make S j k make h made z m e =
      let one = bind_took j _ _ _ e in
      let y = h one.0 one.1 one.2 in
      as_took (Takes S size k) one.3 (y.0, y.1, y.2, made one.0 y.0 one.1 y.3)

  -- so it is of both
  pub agree_make : {S : B → C → ℕ → Type 0} (j : Judged A) (k : Judged C) (make : A → B)
      → Agree R size j k → ((x : A) (y : C) (n : ℕ) → R x y n → S (make x) y n) → Agree S size (j >>= λ x. took (make x.0) x.1) k
  agree_make {S = S} j k make h made = record {
    there = follows_make S j k make h.there made;
    back = λ y n e. let one = h.back y n e in (make one.0, ap (λ q. q >>= λ x. took (make x.0) x.1) one.1);
  }

-- the second makes something of what the first takes
pub agree_of : {A B : Type 0} {R : A → B → ℕ → Type 0} {size : ℕ} (j : Judged A) (other : A → ℕ → B)
    → ((x : A) (n : ℕ) → j ≡ took x n → (n ≤ size) × R x (other x n) n) → Agree R size j (j >>= λ x. took (other x.0 x.1) x.1)
agree_of past other each = agree_past
agree_of (fault bad) other each = agree_fault
agree_of (took x n) other each = let one = each x n refl in agree_took x (other x n) n one.0 one.1

-- both go on from what one judgement takes
pub agree_same : {A B C : Type 0} {R : B → C → ℕ → Type 0} {size : ℕ} (j : Judged A) (f : A × ℕ → Judged B) (g : A × ℕ → Judged C)
    → ((x : A) (n : ℕ) → j ≡ took x n → Agree R size (f (x, n)) (g (x, n))) → Agree R size (j >>= f) (j >>= g)
agree_same past f g each = agree_past
agree_same (fault bad) f g each = agree_fault
agree_same (took x n) f g each = each x n refl

-- both go on from what they take
pub agree_then : {A B C D : Type 0} {R : A → B → ℕ → Type 0} {S : C → D → ℕ → Type 0} {size less : ℕ}
    (j : Judged A) (k : Judged B) (f : A × ℕ → Judged C) (g : B × ℕ → Judged D) → Agree R size j k
    → ((x : A) (y : B) (n : ℕ) → n ≤ size → R x y n → Agree S less (f (x, n)) (g (y, n))) → Agree S less (j >>= f) (k >>= g)
agree_then j k f g h each = record {
  there = λ z m e.
      let one = bind_took j _ _ _ e in
      let two = h.there one.0 one.1 one.2 in
      let all = (each one.0 two.0 one.1 two.2 two.3).there z m one.3 in
      (all.0, ap (λ q. q >>= g) two.1 ∙ all.1, all.2, all.3);
  back = λ z m e.
      let one = bind_took k _ _ _ e in
      let two = agree_back h one.0 one.1 one.2 in
      let all = (each two.0 one.0 one.1 two.2 two.3).back z m one.3 in
      (all.0, ap (λ q. q >>= f) two.1 ∙ all.1);
}

-- ---- what fills some bytes

-- the same of things that fill some bytes
pub record AgreeAll {A B : Type 0} (R : A → B → Type 0) (r : Result A Fault) (s : Result B Fault) : Type 0 where
  pub there : (x : A) → r ≡ Ok x → (y : B) × (s ≡ Ok y) × R x y
  pub back : (y : B) → s ≡ Ok y → (x : A) × (r ≡ Ok x)

-- both are filled
pub agree_ok : {A B : Type 0} {R : A → B → Type 0} (x : A) (y : B) → R x y → AgreeAll R (Ok x) (Ok y)
agree_ok {R = R} x y r = record { there = λ z e. let same : x ≡ z = cc in (y, refl, subst (λ w. R w y) same r); back = λ z e. (x, refl) }

-- what fills some bytes has a first thing, and the others fill the rest
pub next_took : {A : Type 0} (j : Judged A) (rest : ℕ → Result (List A) Fault) (xs : List A) → next_item j rest ≡ Ok xs
    → (x : A) × (n : ℕ) × (others : List A) × (j ≡ took x n) × (rest n ≡ Ok others) × (x ∷ others ≡ xs)
next_took past rest xs h = absurd cc
next_took (fault bad) rest xs h = absurd cc
next_took {A = A} (took x n) rest xs h = by_rest (rest n) refl h
  where
    by_rest : (r : Result (List A) Fault) → rest n ≡ r → read_map (λ ys. x ∷ ys) r ≡ Ok xs
        → (y : A) × (k : ℕ) × (others : List A) × (took x n ≡ took y k) × (rest k ≡ Ok others) × (y ∷ others ≡ xs)
    by_rest (Ok others) is h = (x, n, others, refl, is, cc)
    by_rest (Err bad) is h = absurd cc

-- a first thing, and those that fill the rest
pub agree_next : {A B : Type 0} {R : A → B → ℕ → Type 0} {T : List A → List B → Type 0} {size : ℕ} (j : Judged A) (k : Judged B)
    (f : ℕ → Result (List A) Fault) (g : ℕ → Result (List B) Fault) → Agree R size j k
    → ((n : ℕ) → n ≤ size → AgreeAll (λ xs ys. (x : A) (y : B) → R x y n → T (x ∷ xs) (y ∷ ys)) (f n) (g n)) → AgreeAll T (next_item j f) (next_item k g)
agree_next {T = T} j k f g h each = record {
  there = λ xs e.
      let one = next_took j f xs e in
      let two = h.there one.0 one.1 one.3 in
      let all = (each one.1 two.2).there one.2 one.4 in (
        two.0 ∷ all.0,
        ap (λ q. next_item q g) two.1 ∙ ap (read_map (λ ys. two.0 ∷ ys)) all.1,
        subst (λ zs. T zs (two.0 ∷ all.0)) one.5 (all.2 one.0 two.0 two.3),
      );
  back = λ ys e.
      let one = next_took k g ys e in
      let two = agree_back h one.0 one.1 one.3 in
      let all = (each one.1 two.2).back one.2 one.4 in
      (two.0 ∷ all.0, ap (λ q. next_item q f) two.1 ∙ ap (read_map (λ xs. two.0 ∷ xs)) all.1);
}
