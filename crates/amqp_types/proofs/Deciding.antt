-- A test that separates tidy encodings from other plain ones decides whether bytes that are decoded are tidy, and two such
-- tests decide it of two things, one after the other.
use Rattle.std.proofs.Common.{◌≡◌, ℕ, ◌&&◌, Bool, true, List, ◌++◌, length, take, drop, refl, sym, ap, subst, ◌∙◌, append_assoc}
use Rattle.std.proofs.lemmas.Bool.{and_from, and_parts}
use Rattle.std.proofs.lemmas.List.{drop_at, take-append-drop}
use Rattle.amqp_types.specs.Levels.{Level, plain, tidy}
use Rattle.amqp_types.specs.Judging.{Judge, IsExact}
use Rattle.amqp_types.specs.Sequences.{SpellsBoth}
use Rattle.amqp_types.specs.Tidiness.{used_by, test_both, IsDecidedBy}

-- A plain encoding of which the test holds is tidy, and it holds of each tidy one, whatever follows.
pub record IsTest {A : Type 0} (Spells : Level → List ℕ → A → Type 0) (test : List ℕ → Bool) : Type 0 where
  pub tidied : (bytes rest : List ℕ) (x : A) → Spells plain bytes x → test (bytes ++ rest) ≡ true → Spells tidy bytes x
  pub tested : (bytes rest : List ℕ) (x : A) → Spells tidy bytes x → test (bytes ++ rest) ≡ true

-- A test of decoded bytes that is true exactly of tidy encodings among plain ones decides whether bytes are tidy, where decoding is exact.
pub decides : {A : Type 0} (judge : Judge A) (Spells : Level → List ℕ → A → Type 0) (test : List ℕ → Bool)
    → IsExact judge (Spells plain) → IsTest Spells test → IsDecidedBy judge (Spells tidy) test
decides judge Spells test exact is = record {
  spelled = λ bytes x n fits h right.
      let plainly = exact.spelled bytes x n fits h in
      let P : List ℕ → Type 0 = λ bs. test bs ≡ true in
      is.tidied (take n bytes) (drop n bytes) x plainly.0 (subst P (sym (take-append-drop n bytes)) right);
  tested = is.tested;
}

-- two things, one after the other
module _ {A B C : Type 0} (first : Judge A) (join : A → B → C) (First : Level → List ℕ → A → Type 0)
    (Second : Level → List ℕ → B → Type 0) (one two : List ℕ → Bool)
    (exact : IsExact first (First plain)) (into : (bytes : List ℕ) (x : A) → First tidy bytes x → First plain bytes x)
    (is_one : IsTest First one) (is_two : IsTest Second two) where
  abbrev Both : Level → List ℕ → C → Type 0
  Both level = SpellsBoth (First level) (Second level) join

  parts : (bytes rest front behind : List ℕ) (x : A) → bytes ≡ front ++ behind → First plain front x
      → test_both first one two (bytes ++ rest) ≡ (one (front ++ (behind ++ rest)) && two (behind ++ rest))
  parts bytes rest front behind x are h =
      let tail = behind ++ rest in
      let all : bytes ++ rest ≡ front ++ tail = ap (λ bs. bs ++ rest) are ∙ append_assoc front behind rest in
      let used : used_by (first (front ++ tail)) ≡ length front = ap used_by (exact.taken front tail x h) in
      ap (test_both first one two) all ∙ ap (λ n. one (front ++ tail) && two (drop n (front ++ tail))) used
      ∙ ap (λ bs. one (front ++ tail) && two bs) (drop_at front tail (length front) refl)

  both_tidied : (bytes rest : List ℕ) (z : C) → Both plain bytes z → test_both first one two (bytes ++ rest) ≡ true → Both tidy bytes z
  both_tidied bytes rest z h right =
      let tail = h.behind ++ rest in
      let each = and_parts (one (h.front ++ tail)) (two tail) (sym (parts bytes rest h.front h.behind h.one h.bytes_are h.first_is) ∙ right) in
      record {
        front = h.front;
        behind = h.behind;
        one = h.one;
        two = h.two;
        bytes_are = h.bytes_are;
        first_is = is_one.tidied h.front tail h.one h.first_is each.0;
        second_is = is_two.tidied h.behind rest h.two h.second_is each.1;
        joined = h.joined;
      }

  both_tested : (bytes rest : List ℕ) (z : C) → Both tidy bytes z → test_both first one two (bytes ++ rest) ≡ true
  both_tested bytes rest z h =
      let tail = h.behind ++ rest in
      parts bytes rest h.front h.behind h.one h.bytes_are (into h.front h.one h.first_is)
      ∙ and_from (one (h.front ++ tail)) (two tail) (is_one.tested h.front tail h.one h.first_is) (is_two.tested h.behind rest h.two h.second_is)

  -- Two tests, one on the bytes and one on what follows the first part, separate tidy encodings of two parts from other plain ones.
  pub both_test : IsTest Both (test_both first one two)
  both_test = record { tidied = both_tidied; tested = both_tested }
