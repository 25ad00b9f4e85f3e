-- Whole payloads: how they are refused, and at which level they are encoded.
use Rattle.std.proofs.Common.{◌≡◌, ℕ, ◌<◌, Bool, true, List, [], length, append-nil, Result, Ok, Err, refl, sym, ap, subst, ◌∙◌, arith, inl, inr}
use Rattle.std.specs.Str.{bytes_eq}
use Rattle.std.proofs.lemmas.Bool.{cases_eq, eq-eqb, ne_eqb}
use Rattle.std.proofs.lemmas.List.{take_all}
use Rattle.std.proofs.lemmas.Slice.Eq.{bytes_eq-Decides}
use Rattle.amqp_types.specs.Levels.{Level, plain, tidy, strict}
use Rattle.amqp_types.specs.Judging.{Fault, Judged, Judge, took, trailing_bytes, IsBytes}
use Rattle.amqp_types.specs.Answers.{Refuses, RefusesWhole}
use Rattle.amqp_types.specs.ValueJudging.{inside_error, read_map}
use Rattle.amqp_types.specs.FormLaws.{IsLawful}
use Rattle.amqp_types.specs.Tidiness.{IsDecidedBy}
use Rattle.amqp_types.specs.declared.errors.ParserError.{ParserError}
use Rattle.amqp_types.specs.declared.errors.ParserError.TheVariants as errors
use Rattle.amqp_types.proofs.FormLaws.{is_plain}
use Rattle.amqp_laws.proofs.Filling.{RefusesWhole-map}
use Rattle.amqp_wire.specs.Frames.{Frame}
use Rattle.amqp_wire.specs.Verdicts.{filling, all_of, judge_decoded}

-- ---- refusals

-- a fault of a whole payload is one of its frame
pub refused_frame : (error : ParserError) (read : Result Frame Fault) (n : ℕ) → RefusesWhole error read → Refuses error (judge_decoded true read n)
refused_frame errors.Incomplete read n h = absurd h
refused_frame errors.NoMemory read n h = tt
refused_frame error read n h = ap (λ r. judge_decoded true r n) h

-- a refusal of what is decoded is one of the whole payload
pub refused_all : {A : Type 0} (error : ParserError) (n : ℕ) (j : Judged A) → Refuses error j → RefusesWhole (inside_error error) (filling n j)
refused_all errors.NoMemory n j h = tt
refused_all error n j h = ap (filling n) h

-- An error that says why something is not read says so of what would be made of it.
pub refused_map : {A B : Type 0} (error : ParserError) (make : A → B) (read : Result A Fault)
    → RefusesWhole error read → RefusesWhole error (read_map make read)
refused_map = RefusesWhole-map

-- what was decoded used less than all, or all
pub fills_less : {A : Type 0} (n used : ℕ) (j : Judged A) (x : A) → j ≡ took x used → used < n → filling n j ≡ Err trailing_bytes
fills_less n used j x e less = ap (filling n) e ∙ rw (ne_eqb used n (λ h. absurd (omega arith))) refl

-- What is taken to the end of a payload is what the whole payload is decoded to.
pub fills_all : {A : Type 0} (n used : ℕ) (j : Judged A) (x : A) → j ≡ took x used → used ≡ n → filling n j ≡ Ok x
fills_all n used j x e same = ap (filling n) e ∙ rw (eq-eqb used n same) refl

-- What a payload is decoded to whole was taken from it, to its end.
pub filled_took : {A : Type 0} (n : ℕ) (j : Judged A) (x : A) → filling n j ≡ Ok x → j ≡ took x n
filled_took n (took y used) x h = elim (cases_eq used n) [
  | inl same ↦ let e = rw (eq-eqb used n same) at h in cc
  | inr other ↦ absurd (let e = rw (ne_eqb used n other) at h in cc)
]
filled_took n j x h = absurd cc

-- ---- what a whole payload encodes, where decoding it is lawful

-- A payload that is decoded whole, and passes the test of a level, encodes what is decoded at this level.
abbrev pub AreSpelled : {A : Type 0} → Judge A → (Level → List ℕ → A → Type 0) → (Level → List ℕ → A → Bool) → Type 0
AreSpelled {A} judge Spells at = (level : Level) (payload : List ℕ) (x : A) → IsBytes payload
    → all_of judge payload ≡ Ok x → at level payload x ≡ true → Spells level payload x

-- A payload that encodes a value at any level is decoded to be that value, to its end.
abbrev pub AreWhole : {A : Type 0} → Judge A → (Level → List ℕ → A → Type 0) → Type 0
AreWhole {A} judge Spells = (level : Level) (payload : List ℕ) (x : A) → Spells level payload x → all_of judge payload ≡ Ok x

-- A payload that encodes a value at a level passes the test of that level.
abbrev pub AreAt : {A : Type 0} → (Level → List ℕ → A → Type 0) → (Level → List ℕ → A → Bool) → Type 0
AreAt {A} Spells at = (level : Level) (payload : List ℕ) (x : A) → Spells level payload x → at level payload x ≡ true

-- whether a payload that is decoded to be x is encoded at the level
abbrev pub spells_at : {A : Type 0} → (A → List ℕ) → (List ℕ → Bool) → Level → List ℕ → A → Bool
spells_at canonical is_tidy plain payload x = true
spells_at canonical is_tidy tidy payload x = is_tidy payload
spells_at canonical is_tidy strict payload x = bytes_eq payload (canonical x)

module _ {A : Type 0} (judge : Judge A) (Spells : Level → List ℕ → A → Type 0) (canonical : A → List ℕ) (is_tidy : List ℕ → Bool)
    (lawful : IsLawful judge Spells canonical) (decides : IsDecidedBy judge (Spells tidy) is_tidy) where
  whole_is_plain : (payload : List ℕ) (x : A) → IsBytes payload → judge payload ≡ took x (length payload) → Spells plain payload x
  whole_is_plain payload x fits e =
      rw (← take_all (length payload) payload (omega arith)) (lawful.exact.spelled payload x (length payload) fits e).0

  taken_spells : (level : Level) (payload : List ℕ) (x : A) → IsBytes payload
      → judge payload ≡ took x (length payload) → spells_at canonical is_tidy level payload x ≡ true → Spells level payload x
  taken_spells plain payload x fits e h = whole_is_plain payload x fits e
  taken_spells tidy payload x fits e h =
      rw (← take_all (length payload) payload (omega arith)) (decides.spelled payload x (length payload) fits e h)
  taken_spells strict payload x fits e h =
      rw ((bytes_eq-Decides payload (canonical x)).0 h) (lawful.canonical_is_strict payload x (whole_is_plain payload x fits e))

  pub whole_spells : AreSpelled judge Spells (spells_at canonical is_tidy)
  whole_spells level payload x fits e h = taken_spells level payload x fits (filled_took (length payload) (judge payload) x e) h

  pub spelled_whole : AreWhole judge Spells
  spelled_whole level payload x s =
      let plainly = is_plain Spells lawful.strict_is_tidy lawful.tidy_is_plain level payload x s in
      fills_all (length payload) (length payload) (judge payload) x (ap judge (sym (append-nil payload)) ∙ lawful.exact.taken payload [] x plainly) refl

  pub spelled_at : AreAt Spells (spells_at canonical is_tidy)
  spelled_at plain payload x s = refl
  spelled_at tidy payload x s = ap is_tidy (sym (append-nil payload)) ∙ decides.tested payload [] x s
  spelled_at strict payload x s = (bytes_eq-Decides payload (canonical x)).1 (lawful.strict_is_canonical payload x s)
